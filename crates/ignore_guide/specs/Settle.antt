-- A directory that was loaded has a place, and levels of its own that none had before.
use Rattle.std.specs.Prelude.{◌≡◌, List, Option, None, Some, length}
use Rattle.ignore_levels.specs.Levels.{IsAdded, IsBranch, Passes, level_at}
use Rattle.ignore_levels.specs.declared.list.Place.{Place as LevelPlace}
use Rattle.ignore_levels.specs.declared.list.Slot.{Slot}
use Rattle.ignore_guide.specs.Places.{entered_at}
use Rattle.ignore_guide.specs.declared.open.Opened.{Opened}
use Rattle.ignore_guide.specs.declared.places.Entered.{Entered}
use Rattle.ignore_guide.specs.declared.places.Place.{Place}
use Rattle.ignore_guide.specs.declared.places.Places.{Places}
use Rattle.ignore_guide.specs.declared.settle.Around.{Around}

-- what stays when a directory in the one at a place is left, and when a root is
abbrev pub kept_by : Option Place → Option LevelPlace → Option LevelPlace
kept_by (Some parent) level = level
kept_by None level = None

-- the same by what is around a directory
abbrev pub kept_of : Around → Option LevelPlace
kept_of around = kept_by around.parent around.level

-- a place passes no level that the first list has
abbrev pub AreFresh : List Slot → List Slot → Option LevelPlace → Type 0
AreFresh old new place = (passed : LevelPlace) → Passes new place passed → level_at old passed ≡ None

-- what was loaded is at this place, below what is around it, with at most one level more
pub record IsSettled (old new : List Slot) (after : Places) (place : Place) (around : Around) (opened : Opened) : Type 0 where
  pub dir : Entered
  pub there : entered_at after place ≡ Some dir
  pub inside : dir.parent ≡ around.parent
  pub kept : dir.around ≡ kept_of around
  pub deep : dir.depth ≡ opened.depth
  pub added : IsAdded new opened.dir around.level (length opened.text) dir.level
  pub branch : IsBranch old new around.level dir.level
