-- A growing list of directories, and the chain that a place stands for.
use Rattle.std.specs.Prelude.{◌≡◌, ℕ, ◌<◌, ◌≤◌, ◌==◌, Bool, true, false, not, ◌||◌, List, [], ◌∷◌, filter, Option, None, Some, length, slice_get, if◌then◌else◌, ◌⊎◌}
use Rattle.ignore_dir.specs.declared.dir.Dir.{Dir}
use Rattle.ignore_dir.specs.Lists.{Placed}
use Rattle.ignore_levels.specs.declared.list.Level.{Level}
use Rattle.ignore_levels.specs.declared.list.Levels.{Levels}
use Rattle.ignore_levels.specs.declared.list.Place.{Place}
use Rattle.ignore_levels.specs.declared.list.Slot.{Slot}
use Rattle.ignore_levels.specs.declared.list.Slot.TheVariants.{Used, Free}

-- the slots of a list
abbrev pub slots_of : Levels → List Slot
slots_of levels = levels.slots.items

-- a directory has rules
abbrev pub has_rules : Dir → Bool
has_rules d =
    not (length d.custom.rules == 0)
    || (not (length d.ignore.rules == 0) || (not (length d.gitignore.rules == 0) || not (length d.exclude.rules == 0)))

-- a directory counts: it has rules or a mark
abbrev pub counts : Dir → Bool
counts d = has_rules d || d.mark

-- the level of a slot, if it has one
abbrev pub level_in : Option Slot → Option Level
level_in None = None
level_in (Some (Used level)) = Some level
level_in (Some (Free next)) = None

-- the next free place after a slot, if the slot is free
abbrev pub next_of : Slot → Option Place
next_of (Used level) = None
next_of (Free next) = next

-- the level at a place, if there is one
abbrev pub level_at : List Slot → Place → Option Level
level_at slots place = level_in (slice_get slots place.index)

-- the nearest level with rules, as a level says
abbrev pub ruled_of : Option Level → Option Place
ruled_of None = None
ruled_of (Some level) = level.ruled

-- the nearest level with a mark, as a level says
abbrev pub mark_of : Option Level → Option Place
mark_of None = None
mark_of (Some level) = level.mark

-- the offset of a level, and 0 for none
abbrev pub floor_of : Option Level → ℕ
floor_of None = 0
floor_of (Some level) = level.offset

-- the nearest level with rules, as the level at a place says
abbrev pub ruled_at : List Slot → Option Place → Option Place
ruled_at slots None = None
ruled_at slots (Some place) = ruled_of (level_at slots place)

-- the nearest level with a mark, as the level at a place says
abbrev pub mark_at : List Slot → Option Place → Option Place
mark_at slots None = None
mark_at slots (Some place) = mark_of (level_at slots place)

-- the offset of the level at a place, and 0 where there is none
abbrev pub floor_at : List Slot → Option Place → ℕ
floor_at slots None = 0
floor_at slots (Some place) = floor_of (level_at slots place)

-- a place itself where it has something, else the one above
abbrev pub own_or : Bool → Place → Option Place → Option Place
own_or has place above = if has then Some place else above

-- an offset is greater than that of the nearest directory of a chain
abbrev pub IsBelow : ℕ → List Placed → Type 0
IsBelow offset [] = Unit {0}
IsBelow offset (p ∷ chain) = p.1 < offset

-- the chain that a place stands for, the nearest directory first. No place stands for the empty
-- chain. A level stands for its directory and then its parent's chain, where all offsets are
-- smaller. The nearest level with rules is itself if it has rules, else its parent's; and so it is
-- with marks
pub data IsChain (slots : List Slot) : Option Place → List Placed → Type 0 where
  no_level : IsChain slots None []
  a_level : {place : Place} {level : Level} {chain : List Placed} → level_at slots place ≡ Some level → IsBelow level.offset chain
      → level.ruled ≡ own_or (has_rules level.dir) place (ruled_at slots level.parent)
      → level.mark ≡ own_or level.dir.mark place (mark_at slots level.parent) → IsChain slots level.parent chain
      → IsChain slots (Some place) ((level.dir, level.offset) ∷ chain)

-- a place is that of a level of its own for a directory below a parent, with this offset
pub record HasLevel (slots : List Slot) (dir : Dir) (parent : Option Place) (offset : ℕ) (place : Option Place) : Type 0 where
  pub own : Place
  pub level : Level
  pub same : place ≡ Some own
  pub there : level_at slots own ≡ Some level
  pub holds : level.dir ≡ dir
  pub below : level.parent ≡ parent
  pub begins : level.offset ≡ offset

-- a directory below a place stands at its own where it counts, and else at that one
pub record IsAdded (slots : List Slot) (dir : Dir) (parent : Option Place) (offset : ℕ) (place : Option Place) : Type 0 where
  pub own : counts dir ≡ true → HasLevel slots dir parent offset place
  pub shared : counts dir ≡ false → place ≡ parent

-- the chain with a directory below it: one that doesn't count changes nothing
abbrev pub counted : Dir → ℕ → List Placed → List Placed
counted dir offset chain = if counts dir then (dir, offset) ∷ chain else chain

-- the directories of a chain that count
abbrev pub counting : List Placed → List Placed
counting chain = filter (λ p. counts p.0) chain

-- a chain from its nearest directory that passes a test on
abbrev pub from_first : (Dir → Bool) → List Placed → List Placed
from_first test [] = []
from_first test (p ∷ chain) = if test p.0 then p ∷ chain else from_first test chain

-- each offset is greater than the one before it, and the first than this one
abbrev pub IsRising : ℕ → List Placed → Type 0
IsRising floor [] = Unit {0}
IsRising floor (p ∷ chain) = (floor < p.1) × IsRising p.1 chain

-- each level stays at its place
abbrev pub Keeps : List Slot → List Slot → Type 0
Keeps old new = (place : Place) (level : Level) → level_at old place ≡ Some level → level_at new place ≡ Some level

-- the levels of all places but one stay
abbrev pub KeepsBut : Place → List Slot → List Slot → Type 0
KeepsBut freed old new =
    (place : Place) (level : Level) → (place ≡ freed → ⊥) → level_at old place ≡ Some level → level_at new place ≡ Some level

-- a place has no level, and the list reaches up to it
abbrev pub IsVacant : List Slot → Place → Type 0
IsVacant slots place = (level_at slots place ≡ None) × (place.index ≤ length slots)

-- the chain of a place passes a level
pub data Passes (slots : List Slot) : Option Place → Place → Type 0 where
  itself : {place : Place} → Passes slots (Some place) place
  above : {place passed : Place} {level : Level} → level_at slots place ≡ Some level → Passes slots level.parent passed
      → Passes slots (Some place) passed

-- in the second list the chain of a place passes what that of its parent passes, and else levels
-- that the first list doesn't have
abbrev pub IsBranch : List Slot → List Slot → Option Place → Option Place → Type 0
IsBranch old new parent place = (passed : Place) → Passes new place passed → (level_at old passed ≡ None) ⊎ Passes new parent passed
