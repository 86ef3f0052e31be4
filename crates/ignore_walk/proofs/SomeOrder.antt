-- A list can be sorted stably, and a listing arranged.
use Rattle.std.proofs.Common.{◌≡◌, ℕ, zero, suc, ◌<◌, Bool, true, false, cond, not, ◌&&◌, List, [], ◌∷◌, length, get_or, filter, Option, None, Some}
use Rattle.std.proofs.Common.{IsPermutation, IsSortedBy, Contains, refl, sym, ◌∙◌, ap, subst, arith, add-one}
use Rattle.std.specs.Cmp.{IsStrictWeakOrder}
use Rattle.std.specs.List.Sorted.{ties, IsStableBy}
use Rattle.std.proofs.lemmas.List.Sorted.{IsPermutation-refl, IsPermutation-trans, IsPermutation-append, IsPermutation-append_comm, IsPermutation-sym, Contains-permutation}
use Rattle.ignore_files.specs.declared.types.Listed.{Listed}
use Rattle.ignore_walk.specs.Walked.{comes_before, IsArranged, IsOrdered}
use Rattle.ignore_walk.proofs.Arranged.{before_order}

module _ {X : Type 0} (lt : X → X → Bool) where
  -- x before the first element that isn't less
  abbrev put : X → List X → List X
  put x [] = x ∷ []
  put x (y ∷ ys) = cond (lt y x) (y ∷ put x ys) (x ∷ y ∷ ys)

  abbrev sorted : List X → List X
  sorted [] = []
  sorted (x ∷ xs) = put x (sorted xs)

  cons_shuffled : (x : X) (xs ys : List X) → IsPermutation xs ys → IsPermutation (x ∷ xs) (x ∷ ys)
  cons_shuffled x xs ys h = IsPermutation-append (x ∷ []) (x ∷ []) xs ys (IsPermutation-refl (x ∷ [])) h

  put_shuffled : (x : X) (ys : List X) → IsPermutation (x ∷ ys) (put x ys)
  put_shuffled x [] = IsPermutation-refl (x ∷ [])
  put_shuffled x (y ∷ ys) = by (lt y x) (put_shuffled x ys)
    where
      by : (b : Bool) → IsPermutation (x ∷ ys) (put x ys) → IsPermutation (x ∷ y ∷ ys) (cond b (y ∷ put x ys) (x ∷ y ∷ ys))
      by true h =
          IsPermutation-trans (x ∷ y ∷ ys) (y ∷ x ∷ ys) (y ∷ put x ys)
          (IsPermutation-append (x ∷ y ∷ []) (y ∷ x ∷ []) ys ys (IsPermutation-append_comm (x ∷ []) (y ∷ [])) (IsPermutation-refl ys))
          (cons_shuffled y (x ∷ ys) (put x ys) h)
      by false h = IsPermutation-refl (x ∷ y ∷ ys)

  sorted_shuffled : (xs : List X) → IsPermutation xs (sorted xs)
  sorted_shuffled [] = IsPermutation-refl []
  sorted_shuffled (x ∷ xs) =
      IsPermutation-trans (x ∷ xs) (x ∷ sorted xs) (put x (sorted xs)) (cons_shuffled x xs (sorted xs) (sorted_shuffled xs))
      (put_shuffled x (sorted xs))

  -- the first element, if any, is not less than x
  abbrev From : X → List X → Type 0
  From x [] = Unit {0}
  From x (y ∷ ys) = lt y x ≡ false

  -- no element is less than the one before it
  abbrev Rises : List X → Type 0
  Rises [] = Unit {0}
  Rises (x ∷ xs) = From x xs × Rises xs

  rises_at : (xs : List X) (k : ℕ) (d : X) → suc k < length xs → Rises xs → lt (get_or xs (suc k) d) (get_or xs k d) ≡ false
  rises_at [] k d p h = absurd (omega (arith, p))
  rises_at (x ∷ []) k d p h = absurd (omega (arith, p))
  rises_at (x ∷ (y ∷ ys)) zero d p h = h.0
  rises_at (x ∷ (y ∷ ys)) (suc k) d p h = rises_at (y ∷ ys) k d (omega (arith, p)) h.1

  rises_sorted : (xs : List X) → Rises xs → IsSortedBy lt xs
  rises_sorted xs h k d z p =
      subst (λ (m : ℕ). lt (get_or xs m d) (get_or xs k d) ≡ false) (sym (add-one k)) (rises_at xs k d (omega (arith, p)) h)

  put_from : (x y : X) (ys : List X) → lt x y ≡ false → From y ys → From y (put x ys)
  put_from x y [] p h = p
  put_from x y (z ∷ zs) p h = by (lt z x)
    where
      by : (b : Bool) → From y (cond b (z ∷ put x zs) (x ∷ z ∷ zs))
      by true = h
      by false = p

  put_rises : IsStrictWeakOrder lt → (x : X) (ys : List X) → Rises ys → Rises (put x ys)
  put_rises o x [] h = (tt, tt)
  put_rises o x (y ∷ ys) h = by (lt y x) refl (put_rises o x ys h.1)
    where
      by : (b : Bool) → lt y x ≡ b → Rises (put x ys) → Rises (cond b (y ∷ put x ys) (x ∷ y ∷ ys))
      by true e later = (put_from x y ys (o.one_way y x e) h.0, later)
      by false e later = (e, h)

  sorted_rises : IsStrictWeakOrder lt → (xs : List X) → Rises (sorted xs)
  sorted_rises o [] = tt
  sorted_rises o (x ∷ xs) = put_rises o x (sorted xs) (sorted_rises o xs)

  tied : (x y : X) (a b : Bool) → lt x y ≡ a → lt y x ≡ b → not a && not b ≡ true → (lt x y ≡ false) × (lt y x ≡ false)
  tied x y true b p q h = absurd (cc (h))
  tied x y false true p q h = absurd (cc (h))
  tied x y false false p q h = (p, q)

  -- what ties with two makes them tie
  no_third : IsStrictWeakOrder lt → (x y z : X) → lt y x ≡ true → ties lt z x ≡ true → ties lt z y ≡ true → ⊥
  no_third o x y z h p q =
      let a = tied z x (lt z x) (lt x z) refl refl p in
      let b = tied z y (lt z y) (lt y z) refl refl q in
      let less : lt y x ≡ false = o.chain y z x b.1 a.0 in
      cc (h, less)

  one_kept : (x y : X) (l : List X) (a b : Bool) → (a ≡ true → b ≡ true → ⊥)
      → cond b (y ∷ cond a (x ∷ l) l) (cond a (x ∷ l) l) ≡ cond a (x ∷ cond b (y ∷ l) l) (cond b (y ∷ l) l)
  one_kept x y l true true h = absurd (h refl refl)
  one_kept x y l true false h = refl
  one_kept x y l false true h = refl
  one_kept x y l false false h = refl

  put_stable : IsStrictWeakOrder lt → (x : X) (ys : List X) → IsStableBy lt (x ∷ ys) (put x ys)
  put_stable o x [] z = refl
  put_stable o x (y ∷ ys) z = by (lt y x) refl (put_stable o x ys z)
    where
      by : (b : Bool) → lt y x ≡ b → filter (ties lt z) (put x ys) ≡ filter (ties lt z) (x ∷ ys)
          → filter (ties lt z) (cond b (y ∷ put x ys) (x ∷ y ∷ ys)) ≡ filter (ties lt z) (x ∷ y ∷ ys)
      by true e later =
          ap (λ (l : List X). cond (ties lt z y) (y ∷ l) l) later
          ∙ one_kept x y (filter (ties lt z) ys) (ties lt z x) (ties lt z y) (no_third o x y z e)
      by false e later = refl

  sorted_stable : IsStrictWeakOrder lt → (xs : List X) → IsStableBy lt xs (sorted xs)
  sorted_stable o [] z = refl
  sorted_stable o (x ∷ xs) z =
      put_stable o x (sorted xs) z ∙ ap (λ (l : List X). cond (ties lt z x) (x ∷ l) l) (sorted_stable o xs z)

-- a listing can be arranged
pub some_arrangement : (order : Option (List ℕ → List ℕ → List ℕ → Bool)) (dir : List ℕ) (xs : List Listed) → IsOrdered order
    → (ys : List Listed) × IsArranged order dir xs ys
some_arrangement None dir xs o = (xs, refl)
some_arrangement (Some order) dir xs o =
    let before = comes_before (order dir) in
    let is = before_order (order dir) (o dir) in
    (sorted before xs, (sorted_shuffled before xs, rises_sorted before (sorted before xs) (sorted_rises before is xs), sorted_stable before is xs))

-- it lists nothing else
pub arranged_of : (order : Option (List ℕ → List ℕ → List ℕ → Bool)) (dir : List ℕ) (xs ys : List Listed) (x : Listed)
    → IsArranged order dir xs ys → Contains ys x → Contains xs x
arranged_of None dir xs ys x a h = subst (λ l. Contains l x) a h
arranged_of (Some order) dir xs ys x a h = Contains-permutation ys xs x (IsPermutation-sym xs ys a.0) h
