-- The directories above the roots of a walk, in its list of directories.
use Rattle.std.specs.Prelude.{◌≡◌, Bool, List, [], ◌∷◌, ◌++◌, codes, map, reverse, Ok}
use Rattle.std.specs.List.{filter_map, list_any}
use Rattle.std.specs.Str.{bytes_eq}
use Rattle.std.specs.String.{string_bytes}
use Rattle.ignore_base.specs.Text.{Bytes, Path}
use Rattle.ignore_base.specs.Problem.{problem_of}
use Rattle.ignore_dir.specs.Above.{canonical_names, directories_along, dirs_above, path_along, problems_of_loads}
use Rattle.ignore_dir.specs.Chains.{placed_along, slashed}
use Rattle.ignore_dir.specs.Lists.{Placed}
use Rattle.ignore_levels.specs.declared.list.Slot.{Slot}
use Rattle.ignore_levels.specs.Levels.{IsChain, counting}
use Rattle.ignore_walk.specs.Scene.{Scene}
use Rattle.ignore_walk.specs.Whole.{unseen}
use Rattle.ignore_walk.specs.declared.above.Seen.{Seen}
use Rattle.ignore_walk.specs.declared.above.Way.{Way}

-- what counts of the directories on the way from `/` along some names, the nearest first: of all but
-- the one that they lead to
abbrev pub placed_down : Scene → List Bytes → List Placed
placed_down g names = reverse (placed_along 1 (dirs_above g.loads g.settings (directories_along (codes "/") names)) names)

-- what counts of the directory with a canonical path and of those above it, the nearest first
abbrev pub placed_through : Scene → Path → List Placed
placed_through g path =
    let names = canonical_names (Ok path) in
    reverse (placed_along 1 (dirs_above g.loads g.settings (directories_along (codes "/") names ++ path ∷ [])) names)

-- the paths of directories that are kept
abbrev pub paths_of : List Seen → List Path
paths_of kept = map (λ (s : Seen). s.path) kept

-- a path is among others
abbrev pub is_among : Path → List Path → Bool
is_among path paths = list_any (bytes_eq path) paths

-- the directories above earlier roots, as the walk keeps them: these, each once
abbrev pub AreSeen : List Seen → List Path → Type 0
AreSeen kept paths = (path : Path) → is_among path (paths_of kept) ≡ is_among path paths

-- each directory that is kept has its place in a list: it stands for what counts of the directory
-- and of those above it
abbrev pub AreShared : Scene → List Slot → List Seen → Type 0
AreShared g slots [] = Unit {0}
AreShared g slots (s ∷ kept) = IsChain slots s.place (counting (placed_through g s.path)) × AreShared g slots kept

-- a way has passed the directories from `/` along some names, where these were kept of earlier
-- roots: what stands for them; and those that are above no earlier root, with what is wrong with them
pub record HasPassed (g : Scene) (slots : List Slot) (kept : List Seen) (seen : List Path) (names : List Bytes) (w : Way) : Type 0 where
  pub place : IsChain slots w.place (counting (placed_down g names))
  pub new : AreShared g slots w.added.items
  pub all : AreSeen (kept ++ w.added.items) (seen ++ directories_along (codes "/") names)
  pub errors : map problem_of w.errors.items
      ≡ filter_map (λ p. p) (problems_of_loads g.loads (unseen seen (directories_along (codes "/") names)))

-- a way has come along some names
pub record HasCome (g : Scene) (slots : List Slot) (kept : List Seen) (seen : List Path) (names : List Bytes) (w : Way) : Type 0 where
  pub path : string_bytes w.path ≡ path_along (codes "/") names
  pub text : string_bytes w.text ≡ 47 ∷ slashed names
  pub passed : HasPassed g slots kept seen names w
