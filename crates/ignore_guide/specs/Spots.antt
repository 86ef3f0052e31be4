-- The list of the directories that were entered, and how many of them are in each.
use Rattle.std.specs.Prelude.{◌≡◌, ℕ, ◌≤◌, ◌==◌, Bool, true, false, ◌&&◌, List, count_by, Option, None, Some, length, slice_get, if◌then◌else◌}
use Rattle.ignore_guide.specs.declared.places.Entered.{Entered}
use Rattle.ignore_guide.specs.declared.places.Held.{Held}
use Rattle.ignore_guide.specs.declared.places.Held.TheVariants as held
use Rattle.ignore_guide.specs.declared.places.Place.{Place}
use Rattle.ignore_guide.specs.declared.places.Spot.{Spot}

-- the directory that is held, if one is
abbrev pub dir_in : Held → Option Entered
dir_in (held.Entered e) = Some e
dir_in (held.Free next) = None

-- the number of the next free place, where nothing is held
abbrev pub next_of : Held → Option ℕ
next_of (held.Entered e) = None
next_of (held.Free next) = next

-- nothing is held
abbrev pub is_free : Held → Bool
is_free (held.Entered e) = false
is_free (held.Free next) = true

-- the directory of a spot, if there is one
abbrev pub dir_of : Option Spot → Option Entered
dir_of None = None
dir_of (Some spot) = dir_in spot.held

-- the same where the spot has this serial
abbrev pub dir_by : ℕ → Option Spot → Option Entered
dir_by serial None = None
dir_by serial (Some spot) = if spot.serial == serial then dir_in spot.held else None

-- no directory is at a number, and the list reaches up to it
abbrev pub IsVacant : List Spot → ℕ → Type 0
IsVacant spots index = (dir_of (slice_get spots index) ≡ None) × (index ≤ length spots)

-- a spot was put at a number, and the others stay
pub record IsPut (old : List Spot) (index : ℕ) (spot : Spot) (new : List Spot) : Type 0 where
  pub here : slice_get new index ≡ Some spot
  pub others : (other : ℕ) → (other ≡ index → ⊥) → slice_get new other ≡ slice_get old other

-- some place is this one
abbrev pub is_place : Place → Option Place → Bool
is_place place None = false
is_place place (Some other) = other.index == place.index && other.serial == place.serial

-- a directory is in the one at a place
abbrev pub is_in : Place → Option Entered → Bool
is_in place None = false
is_in place (Some dir) = is_place place dir.parent

-- how many are
abbrev pub children_in : List Spot → Place → ℕ
children_in spots place = count_by (λ s. is_in place (dir_in s.held)) spots

-- each spot has the number of those in its own, and no serial is greater than the last that was handed out
pub record IsCounted (spots : List Spot) (serial : ℕ) : Type 0 where
  pub handed : (index : ℕ) (spot : Spot) → slice_get spots index ≡ Some spot → spot.serial ≤ serial
  pub around : (index : ℕ) (spot : Spot) (dir : Entered) (parent : Place) → slice_get spots index ≡ Some spot
      → dir_in spot.held ≡ Some dir → dir.parent ≡ Some parent → parent.serial ≤ serial
  pub counted : (index : ℕ) (spot : Spot) → slice_get spots index ≡ Some spot
      → spot.children ≡ children_in spots (record { index = index; serial = spot.serial })

-- what is at a number of the list, once so many directories are counted in the one at a place
abbrev pub counted_at : Option Place → ℕ → ℕ → Option Spot → Option Spot
counted_at parent children index None = None
counted_at parent children index (Some spot) =
    Some (if is_place (record { index = index; serial = spot.serial }) parent then record spot { children = children } else spot)
