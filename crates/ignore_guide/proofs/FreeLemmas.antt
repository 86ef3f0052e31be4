-- The levels that go when a directory is left, in a list that lost some of them.
use Rattle.std.proofs.Common.{◌≡◌, ◌≢◌, List, Option, None, Some, refl}
use Rattle.ignore_levels.specs.Levels.{Keeps, level_at}
use Rattle.ignore_levels.specs.declared.list.Level.{Level}
use Rattle.ignore_levels.specs.declared.list.Place.{Place}
use Rattle.ignore_levels.specs.declared.list.Slot.{Slot}
use Rattle.ignore_guide.specs.Forest.{Owns}
use Rattle.ignore_guide.specs.Guide.{parent_at, parent_of}
use Rattle.ignore_guide.specs.Forest.Owns.{first, next}

-- where each level stays
pub owns-kept : {old new : List Slot} (keeps : Keeps old new) (floor : Option Place) {from : Option Place} {owned : Place} → Owns old floor from owned
    → Owns new floor from owned
owns-kept keeps floor (first ne) = first ne
owns-kept keeps floor (next {place} {owned} {level} ne e rest) = next ne (keeps place level e) (owns-kept keeps floor rest)

owns-by : (slots : List Slot) (floor : Option Place) (place owned : Place) → Some place ≢ floor → (found : Option Level)
    → level_at slots place ≡ found → Owns slots floor (parent_of found) owned → Owns slots floor (Some place) owned
owns-by slots floor place owned ne None e h = elim h [ ]
owns-by slots floor place owned ne (Some level) e h = next ne e h

-- one level more
pub owns-step : (slots : List Slot) (floor : Option Place) (place owned : Place) → Some place ≢ floor
    → Owns slots floor (parent_at slots place) owned → Owns slots floor (Some place) owned
owns-step slots floor place owned ne h = owns-by slots floor place owned ne (level_at slots place) refl h
