-- Which directories an answer needs, and what a query leaves kept.
use lib.Pointwise.{pointwise}
use Rattle.std.specs.Prelude.{◌≡◌, true, Bool, not, ◌||◌, ◌&&◌, All, List, filter, Some, is_some}
use Rattle.std.specs.List.{list_all, list_any}
use Rattle.std.specs.Str.{bytes_eq}
use Rattle.ignore_base.specs.Text.{Bytes, Path}
use Rattle.ignore_base.specs.Paths.{IsName}
use Rattle.ignore_dir.specs.Limits.{is_beyond}
use Rattle.ignore_dir.specs.Query.{ancestors, depth_of_path, has_rules, is_asked, is_ignored}
use Rattle.ignore_dir.specs.Scene.{QueryScene}
use Rattle.ignore_query.specs.declared.kept.Cache.{Cache}
use Rattle.ignore_query.specs.declared.kept.Kept.{Kept}
use Rattle.ignore_levels.specs.Levels.{Keeps, slots_of}
use Rattle.ignore_query.specs.Listed.{kept_at}

-- the rules decide on a path: it is asked about, within the limits on depth, and has a name, and
-- the root is a directory
abbrev pub is_decided : QueryScene → Path → Bool → Bool
is_decided g path is_dir =
    is_asked g.root path && (not (is_beyond g.settings (depth_of_path path) is_dir) && has_rules g.tree g.root path)

-- the directories that an answer to a path of names needs: its proper ancestors down to the first
-- ignored one, which are those that aren't below an ignored one
unfoldable pub needed : QueryScene → List Bytes → List (List Bytes)
needed g names = filter (λ front. not (list_any (is_ignored g) (ancestors front))) (ancestors names)

-- the directory with these names is among some
abbrev pub is_among : List (List Bytes) → List Bytes → Bool
is_among dirs names = list_any (pointwise bytes_eq names) dirs

-- something is kept of the directory with these names
abbrev pub is_kept : Cache → List Bytes → Bool
is_kept c names = is_some (kept_at c names)

-- all directories that an answer to a path of names needs are kept
abbrev pub is_known : QueryScene → Cache → List Bytes → Bool
is_known g c names = list_all (is_kept c) (needed g names)

-- what was kept stays kept: what is above the root, what is kept of each directory, and each level
-- at its place
pub record Stays (old new : Cache) : Type 0 where
  pub above : old.has_above ≡ true → (new.has_above ≡ true) × ((new.above ≡ old.above) × (new.base ≡ old.base))
  pub dirs : (names : List Bytes) (k : Kept) → kept_at old names ≡ Some k → kept_at new names ≡ Some k
  pub levels : Keeps (slots_of old.levels) (slots_of new.levels)

-- an answer that the rules decide leaves these kept, and no others: what was kept, what is above
-- the root, and the directories that the answer needs
pub record KeepsNeeded (needs : List (List Bytes)) (old new : Cache) : Type 0 where
  pub above : new.has_above ≡ true
  pub dirs : (names : List Bytes) → All IsName names → is_kept new names ≡ (is_kept old names || is_among needs names)
