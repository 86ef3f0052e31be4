-- What a tool that watches a tree knows of a change.
use Rattle.std.specs.Prelude.{◌≡◌, true, false, All, List, Some}
use Rattle.ignore.specs.Words.{Bytes, Path}
use Rattle.ignore.specs.WalkWords.{Cache, IsName, Kept, QueryScene, dirs_above, is_asked, is_at_or_below, is_dir_there, kept_at}
use Rattle.ignore.specs.WalkWords.{names_of, path_along, paths_above}

-- a tree changed at most at and below the directory at a path: that path is clean and the root
-- isn't `-`; the root leads to a directory in both trees or in none, its canonical path is the
-- same, and so is what counts of the directories above it; and what a directory holds for the rules
-- is the same for each that isn't at or below the one that changed
pub record IsChangedWithin (before after : QueryScene) (dir : Path) : Type 0 where
  pub asked : is_asked before.root dir ≡ true
  pub root : is_dir_there (after.tree.stat after.root true) ≡ is_dir_there (before.tree.stat before.root true)
  pub canonical : after.tree.canonical after.root ≡ before.tree.canonical before.root
  pub above : dirs_above after.loads after.settings (paths_above after.tree after.settings after.root)
      ≡ dirs_above before.loads before.settings (paths_above before.tree before.settings before.root)
  pub dirs : (names : List Bytes) → All IsName names → is_at_or_below (names_of dir) names ≡ false
      → (after.loads (path_along after.root names)).0 ≡ (before.loads (path_along before.root names)).0

-- what was kept of each directory that isn't at or below the one at a path stays kept
abbrev pub StaysOutside : Path → Cache → Cache → Type 0
StaysOutside dir old new =
    (names : List Bytes) (k : Kept) → All IsName names → is_at_or_below (names_of dir) names ≡ false
    → kept_at old names ≡ Some k → kept_at new names ≡ Some k
