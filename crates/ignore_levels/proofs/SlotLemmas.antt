-- What stands at a place after an append, a write and a cut.
use Rattle.std.proofs.Common.{◌≡◌, ℕ, zero, suc, ◌<◌, ◌≤◌, List, [], ◌∷◌, ◌++◌, Option, None, Some, length, slice_get, take, set, refl, sym, ap, ◌∙◌, arith}
use Rattle.ignore_levels.specs.declared.list.Level.{Level}
use Rattle.ignore_levels.specs.declared.list.Place.{Place}
use Rattle.ignore_levels.specs.declared.list.Slot.{Slot}
use Rattle.ignore_levels.specs.declared.list.Slot.TheVariants.{Used, Free}
use Rattle.ignore_levels.specs.Levels.{Keeps, KeepsBut, level_at, level_in}

pub get-append : {X : Type 0} (xs ys : List X) (i : ℕ) (x : X) → slice_get xs i ≡ Some x → slice_get (xs ++ ys) i ≡ Some x
get-append [] ys i x e = absurd (cc (e))
get-append (a ∷ xs) ys zero x e = e
get-append (a ∷ xs) ys (suc i) x e = get-append xs ys i x e

pub get-end : {X : Type 0} (xs : List X) (y : X) → slice_get (xs ++ y ∷ []) (length xs) ≡ Some y
get-end [] y = refl
get-end (a ∷ xs) y = get-end xs y

pub get-past : {X : Type 0} (xs : List X) (i : ℕ) → length xs ≤ i → slice_get xs i ≡ None
get-past [] i h = refl
get-past (a ∷ xs) zero h = absurd (omega arith)
get-past (a ∷ xs) (suc i) h = get-past xs i (omega arith)

pub get-set : {X : Type 0} (xs : List X) (i : ℕ) (v : X) → i < length xs → slice_get (set xs i v) i ≡ Some v
get-set [] i v h = absurd (omega arith)
get-set (a ∷ xs) zero v h = refl
get-set (a ∷ xs) (suc i) v h = get-set xs i v (omega arith)

pub get-set_other : {X : Type 0} (xs : List X) (i j : ℕ) (v : X) → (i ≡ j → ⊥) → slice_get (set xs i v) j ≡ slice_get xs j
get-set_other [] i j v h = refl
get-set_other (a ∷ xs) zero zero v h = absurd (h refl)
get-set_other (a ∷ xs) zero (suc j) v h = refl
get-set_other (a ∷ xs) (suc i) zero v h = refl
get-set_other (a ∷ xs) (suc i) (suc j) v h = get-set_other xs i j v (λ e. h (ap suc e))

pub get-within : {X : Type 0} (n : ℕ) (xs : List X) (i : ℕ) (x : X) → slice_get (take n xs) i ≡ Some x → (i < n) × (slice_get xs i ≡ Some x)
get-within zero xs i x e = absurd (cc (e))
get-within (suc n) [] i x e = absurd (cc (e))
get-within (suc n) (a ∷ xs) zero x e = (omega arith, e)
get-within (suc n) (a ∷ xs) (suc i) x e = let t = get-within n xs i x e in (omega (arith, t.0), t.1)

pub get-take : {X : Type 0} (n : ℕ) (xs : List X) (i : ℕ) (x : X) → i < n → slice_get xs i ≡ Some x → slice_get (take n xs) i ≡ Some x
get-take zero xs i x h e = absurd (omega arith)
get-take (suc n) [] i x h e = e
get-take (suc n) (a ∷ xs) zero x h e = e
get-take (suc n) (a ∷ xs) (suc i) x h e = get-take n xs i x (omega arith) e

pub within : {X : Type 0} (xs : List X) (i : ℕ) (x : X) → slice_get xs i ≡ Some x → i < length xs
within [] i x e = absurd (cc (e))
within (a ∷ xs) zero x e = omega arith
within (a ∷ xs) (suc i) x e = let h = within xs i x e in omega (arith, h)

-- a slot that has a level
pub used-is : (slot : Option Slot) (level : Level) → level_in slot ≡ Some level → slot ≡ Some (Used level)
used-is None level e = absurd (cc (e))
used-is (Some (Used other)) level e = cc
used-is (Some (Free next)) level e = absurd (cc (e))

-- what keeps each level keeps each within a length
pub keeps-within : (old new : List Slot) (n : ℕ) → Keeps old new → Keeps (take n old) (take n new)
keeps-within old new n keeps place level e =
    let was = get-within n old place.index (Used level) (used-is (slice_get (take n old) place.index) level e) in
    let is = keeps place level (ap level_in was.1) in
    ap level_in (get-take n new place.index (Used level) was.0 (used-is (slice_get new place.index) level is))

-- a longer list
pub keeps-append : (old more : List Slot) → Keeps old (old ++ more)
keeps-append old more place level e =
    ap level_in (get-append old more place.index (Used level) (used-is (slice_get old place.index) level e))

-- a write where no level is
pub keeps-set : (old : List Slot) (i : ℕ) (slot : Slot) → level_in (slice_get old i) ≡ None → Keeps old (set old i slot)
keeps-set old i slot none place level e =
    ap level_in (get-set_other old i place.index slot (λ same. let at = ap (λ k. level_in (slice_get old k)) same in cc (at, none, e))) ∙ e

-- a list within another
pub keeps-cut : (old : List Slot) (n : ℕ) → Keeps (take n old) old
keeps-cut old n place level e =
    ap level_in (get-within n old place.index (Used level) (used-is (slice_get (take n old) place.index) level e)).1

-- a write keeps all levels but the one that was there
pub keeps_but-set : (old : List Slot) (freed : Place) (slot : Slot) → KeepsBut freed old (set old freed.index slot)
keeps_but-set old freed slot place level other e =
    let make : ℕ → Place = λ n. record { index = n } in
    ap level_in (get-set_other old freed.index place.index slot (λ same. other (ap make (sym same)))) ∙ e

-- a place that has a level is within the list
pub level-within : (slots : List Slot) (place : Place) (level : Level) → level_at slots place ≡ Some level → place.index < length slots
level-within slots place level e = within slots place.index (Used level) (used-is (slice_get slots place.index) level e)

-- a write keeps the length
pub length-written : {X : Type 0} (xs : List X) (i : ℕ) (v : X) → length (set xs i v) ≡ length xs
length-written [] i v = refl
length-written (a ∷ xs) zero v = refl
length-written (a ∷ xs) (suc i) v = ap suc (length-written xs i v)
