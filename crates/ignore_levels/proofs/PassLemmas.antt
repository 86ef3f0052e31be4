-- Which levels the chain of a place passes in a list that grew or lost some.
use Rattle.std.proofs.Common.{◌≡◌, ℕ, ◌≤◌, zero, suc, All, List, [], ◌∷◌, Option, None, Some, inl, inr, slice_get, set, refl, sym, ap, subst, arith}
use Rattle.ignore_dir.specs.Lists.{Placed}
use Rattle.ignore_levels.specs.declared.list.Level.{Level}
use Rattle.ignore_levels.specs.declared.list.Place.{Place}
use Rattle.ignore_levels.specs.declared.list.Slot.{Slot}
use Rattle.ignore_levels.specs.declared.list.Slot.TheVariants.{Free}
use Rattle.ignore_levels.specs.Levels.{IsBranch, IsChain, Keeps, Passes, floor_at, floor_of, level_at, level_in}
use Rattle.ignore_levels.specs.Levels.IsChain.{no_level, a_level}
use Rattle.ignore_levels.specs.Levels.Passes.{itself, above}

-- a new level, below its parent
pub branch-new : (old new : List Slot) (place : Place) (level : Level) → level_at old place ≡ None → level_at new place ≡ Some level
    → IsBranch old new level.parent (Some place)
branch-new old new _ level none some _ (itself) = inl none
branch-new old new _ level none some passed (above {level = other} e rest) =
    let same : other ≡ level = cc (e, some) in
    inr (subst (λ (x : Level). Passes new x.parent passed) same rest)

-- what a chain passes where each level stays
pub passes-kept : {old new : List Slot} (keeps : Keeps old new) {place : Option Place} {at : Place} → Passes old place at → Passes new place at
passes-kept keeps itself = itself
passes-kept keeps (above {place} {level = level} e rest) = above (keeps place level e) (passes-kept keeps rest)

-- what the chain of a place passes in a list that grew, it passed before
pub passes-back : (old new : List Slot) → Keeps old new → (place : Option Place) (chain : List Placed) (at : Place) → IsChain old place chain
    → Passes new place at → Passes old place at
passes-back old new keeps _ _ at no_level passes = elim passes [ ]
passes-back old new keeps _ _ at (a_level e below ruled mark rest) itself = itself
passes-back old new keeps _ _ at (a_level {place = here} {level = level} {chain = tail} e below ruled mark rest) (above {level = other} f more) =
    let same : other ≡ level = cc (f, keeps here level e) in
    above e (passes-back old new keeps level.parent tail at rest (subst (λ (x : Level). Passes new x.parent at) same more))

-- a level that a chain passes, and its offset
pub record PassedLevel (slots : List Slot) (at : Place) (most : ℕ) : Type 0 where
  pub level : Level
  pub is : level_at slots at ≡ Some level
  pub within : floor_at slots (Some at) ≤ most

pub passed-level : (slots : List Slot) (place : Option Place) (chain : List Placed) (at : Place) (most : ℕ) → IsChain slots place chain
    → All (λ p. p.1 ≤ most) chain → Passes slots place at → PassedLevel slots at most
passed-level slots _ _ at most no_level all passes = elim passes [ ]
passed-level slots _ _ _ most (a_level {level = level} e below ruled mark rest) all itself =
    let within = all 0 (level.dir, level.offset) (omega arith) in
    record { level = level; is = e; within = subst (λ n. n ≤ most) (sym (ap floor_of e)) within }
passed-level slots _ _ at most (a_level {place = here} {level = level} {chain = tail} e below ruled mark rest) all (above {level = other} f more) =
    let same : other ≡ level = cc (f, e) in
    passed-level slots level.parent tail at most rest (λ k d l. all (suc k) d (omega (arith, l)))
    (subst (λ (x : Level). Passes slots x.parent at) same more)

get-freed : (xs : List Slot) (i j : ℕ) (next : Option Place) (level : Level) → level_in (slice_get (set xs i (Free next)) j) ≡ Some level
    → level_in (slice_get xs j) ≡ Some level
get-freed [] i j next level e = e
get-freed (a ∷ xs) zero zero next level e = absurd (cc (e))
get-freed (a ∷ xs) zero (suc j) next level e = e
get-freed (a ∷ xs) (suc i) zero next level e = e
get-freed (a ∷ xs) (suc i) (suc j) next level e = get-freed xs i j next level e

-- where a level was dropped, the others are those of before
pub keeps-freed : (old : List Slot) (i : ℕ) (next : Option Place) → Keeps (set old i (Free next)) old
keeps-freed old i next place level e = get-freed old i place.index next level e

pub keeps-itself : (slots : List Slot) → Keeps slots slots
keeps-itself slots place level e = e

pub keeps-then : (a b c : List Slot) → Keeps a b → Keeps b c → Keeps a c
keeps-then a b c p q place level e = q place level (p place level e)

floor-option : (a b : Option Level) → ((level : Level) → a ≡ Some level → b ≡ Some level) → floor_of a ≤ floor_of b
floor-option None b f = omega arith
floor-option (Some level) b f = let e : b ≡ Some level = f level refl in subst (λ o. level.offset ≤ floor_of o) (sym e) (omega arith)

-- an offset doesn't grow where levels stay
pub floor-kept : (old new : List Slot) (at : Place) → Keeps old new → floor_at old (Some at) ≤ floor_at new (Some at)
floor-kept old new at keeps = floor-option (level_at old at) (level_at new at) (keeps at)
