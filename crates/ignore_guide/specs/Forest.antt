-- The levels of the directories that were entered: each has a chain, and its own levels go with it.
use Rattle.std.specs.Prelude.{◌≡◌, ◌≢◌, ℕ, ◌<◌, All, List, Option, None, Some}
use Rattle.ignore_dir.specs.Lists.{IsAfterSlash}
use Rattle.ignore_dir.specs.Steps.{Reached}
use Rattle.ignore_levels.specs.Levels.{IsChain, counting, level_at}
use Rattle.ignore_levels.specs.declared.list.Level.{Level}
use Rattle.ignore_levels.specs.declared.list.Place.{Place as LevelPlace}
use Rattle.ignore_levels.specs.declared.list.Slot.{Slot}
use Rattle.ignore_guide.specs.Places.{entered_at}
use Rattle.ignore_guide.specs.declared.places.Entered.{Entered}
use Rattle.ignore_guide.specs.declared.places.Place.{Place}
use Rattle.ignore_guide.specs.declared.places.Places.{Places}

-- the levels give a directory that was entered this chain; it has this text and this path
pub record Stands (slots : List Slot) (dir : Entered) (at : Reached) : Type 0 where
  pub chain : IsChain slots dir.level (counting at.chain)
  pub inside : All (λ p. IsAfterSlash at.text p.1) (counting at.chain)
  pub text : dir.text ≡ at.text
  pub path : dir.path ≡ at.path

-- the levels from one on, up to another that stays
pub data Owns (slots : List Slot) (floor : Option LevelPlace) : Option LevelPlace → LevelPlace → Type 0 where
  first : {place : LevelPlace} → Some place ≢ floor → Owns slots floor (Some place) place
  next : {place owned : LevelPlace} {level : Level} → Some place ≢ floor → level_at slots place ≡ Some level
      → Owns slots floor level.parent owned → Owns slots floor (Some place) owned

-- a place of these stands for the directory that is reached, whose entries are so many names below the root
pub record StandsIn (slots : List Slot) (places : Places) (place : Place) (depth : ℕ) (at : Reached) : Type 0 where
  pub dir : Entered
  pub there : entered_at places place ≡ Some dir
  pub deep : dir.depth ≡ depth
  pub stands : Stands slots dir at

-- a directory is in one that was entered: what goes with it is below the levels of that one
pub record IsWithin (places : Places) (dir : Entered) (parent : Place) : Type 0 where
  pub outer : Entered
  pub there : entered_at places parent ≡ Some outer
  pub around : dir.around ≡ outer.level
  pub deeper : outer.depth < dir.depth

-- each directory that was entered stands for a chain; what goes with a root is all of its levels, and
-- with another those below the directory that it is in; and no level goes with two
pub record IsForest (slots : List Slot) (places : Places) : Type 0 where
  pub alive : (place : Place) (dir : Entered) → entered_at places place ≡ Some dir → (at : Reached) × Stands slots dir at
  pub top : (place : Place) (dir : Entered) → entered_at places place ≡ Some dir → dir.parent ≡ None → dir.around ≡ None
  pub inner : (place : Place) (dir : Entered) (parent : Place) → entered_at places place ≡ Some dir → dir.parent ≡ Some parent
      → IsWithin places dir parent
  pub apart : (one other : Place) (dir stays : Entered) (level : LevelPlace) → one ≢ other → entered_at places one ≡ Some dir
      → entered_at places other ≡ Some stays → Owns slots dir.around dir.level level → Owns slots stays.around stays.level level → ⊥
