-- The directories that were entered and not left, each at its place.
use Rattle.std.specs.Prelude.{◌≡◌, ◌≢◌, ◌≤◌, nat_le, Option, None, Some, slice_get, if◌then◌else◌}
use Rattle.ignore_guide.specs.Spots.{dir_by}
use Rattle.ignore_guide.specs.declared.places.Entered.{Entered}
use Rattle.ignore_guide.specs.declared.places.Place.{Place}
use Rattle.ignore_guide.specs.declared.places.Places.{Places}

-- the directory that was entered at a place, unless it was left: no later one has its serial
abbrev pub entered_at : Places → Place → Option Entered
entered_at places place =
    if nat_le place.serial places.serial then dir_by place.serial (slice_get places.spots.items place.index) else None

-- the directory at one place, which was entered and not left, is in that at another
abbrev pub IsIn : Places → Place → Place → Type 0
IsIn places parent child = (dir : Entered) × (entered_at places child ≡ Some dir) × (dir.parent ≡ Some parent)

-- a place was handed out, and it was left
abbrev pub IsGone : Places → Place → Type 0
IsGone places place = (place.serial ≤ places.serial) × (entered_at places place ≡ None)

-- what was entered at each place but one is what was
abbrev pub KeepsOthers : Place → Places → Places → Type 0
KeepsOthers place old new = (other : Place) → other ≢ place → entered_at new other ≡ entered_at old other

-- the same at each place
abbrev pub IsSamePlaces : Places → Places → Type 0
IsSamePlaces old new = (place : Place) → entered_at new place ≡ entered_at old place
