-- What is kept of directories, and how their places share the levels of one list.
use Rattle.std.specs.Prelude.{◌≡◌, ◌-◌, All, List, Option, None, Some, length, string_bytes, take, ◌⊎◌}
use Rattle.std.specs.BTreeMap.{get_by_text}
use Rattle.ignore_base.specs.Text.{Bytes, Path}
use Rattle.ignore_base.specs.Paths.{IsName}
use Rattle.ignore_dir.specs.Chains.{slashed}
use Rattle.ignore_levels.specs.Levels.{Passes, floor_at, level_at, slots_of}
use Rattle.ignore_levels.specs.declared.list.Place.{Place}
use Rattle.ignore_levels.specs.declared.list.Slot.{Slot}
use Rattle.ignore_query.specs.declared.kept.Cache.{Cache}
use Rattle.ignore_query.specs.declared.kept.Kept.{Kept}
use Rattle.ignore_query.specs.declared.kept.Kept.TheVariants.{Ignored, Loaded}

-- what is kept of the directory with these names below the root. Its key is `a/b/` for `a`, `b`,
-- and empty for the root
abbrev pub kept_at : Cache → List Bytes → Option Kept
kept_at c names = get_by_text c.dirs.map (slashed names)

-- the directory with these names is kept, and its chain passes the level at a place
abbrev pub PassesAt : Cache → List Bytes → Place → Type 0
PassesAt c names at =
    (place : Option Place) × (kept_at c names ≡ Some (Loaded place)) × Passes (slots_of c.levels) place at

-- the key of a directory down to the one whose level is at a place, by the offset of that
abbrev pub key_down_to : Cache → Place → Path → Path
key_down_to c at key = take (floor_at (slots_of c.levels) (Some at) - length (string_bytes c.base)) key

-- directories whose chains pass one level are at or below one directory, whose level it is
abbrev pub SharesLevels : Cache → Type 0
SharesLevels c = (a b : List Bytes) (at : Place) → All IsName a → All IsName b → PassesAt c a at → PassesAt c b at
    → key_down_to c at (slashed a) ≡ key_down_to c at (slashed b)

-- in the second list the chain of what is kept passes at most levels that the first doesn't have,
-- and those that the chain of a place passes
abbrev pub IsBelow : List Slot → List Slot → Option Place → Kept → Type 0
IsBelow old new parent Ignored = Unit {0}
IsBelow old new parent (Loaded place) = (at : Place) → Passes new place at → (level_at old at ≡ None) ⊎ Passes new parent at
