-- A stable sort has one result, and so has the arrangement of a listing.
use Rattle.std.proofs.Common.{◌≡◌, ℕ, suc, ◌<◌, ◌≤◌, Bool, true, false, cond, not, ◌&&◌, List, [], ◌∷◌, length, get_or, filter, Option, None, Some, IsSortedBy, refl, sym, ◌∙◌, ap, subst, arith}
use Rattle.std.specs.Cmp.{IsStrictWeakOrder}
use Rattle.std.specs.List.Sorted.{ties, IsStableBy}
use Rattle.std.proofs.lemmas.List.Sorted.{sorted_far}
use Rattle.ignore_files.specs.declared.types.Listed.{Listed}
use Rattle.ignore_files.specs.declared.types.Listed.TheVariants as thing
use Rattle.ignore_walk.specs.Walked.{comes_before, IsArranged, IsOrdered}

module _ {X : Type 0} (lt : X → X → Bool) where
  -- no element of a list is less than x
  abbrev Above : X → List X → Type 0
  Above x [] = Unit {0}
  Above x (y ∷ ys) = (lt y x ≡ false) × Above x ys

  -- no element is less than one before it
  abbrev Up : List X → Type 0
  Up [] = Unit {0}
  Up (x ∷ xs) = Above x xs × Up xs

  above_of : (x : X) (xs : List X) → ((k : ℕ) → k < length xs → lt (get_or xs k x) x ≡ false) → Above x xs
  above_of x [] h = tt
  above_of x (y ∷ ys) h = (h 0 (omega arith), above_of x ys (λ k p. h (suc k) (omega arith)))

  up_of : (xs : List X) → ((i j : ℕ) (d : X) → i ≤ j → j < length xs → lt (get_or xs j d) (get_or xs i d) ≡ false) → Up xs
  up_of [] h = tt
  up_of (x ∷ xs) h = (
    above_of x xs (λ k p. h 0 (suc k) x (omega arith) (omega arith)),
    up_of xs (λ i j d p q. h (suc i) (suc j) d (omega arith)
        (omega arith)),
  )

  bounded_if : (y z x : X) (l rest : List X) (b : Bool) → lt x y ≡ false → (l ≡ z ∷ rest → lt z y ≡ false)
      → cond b (x ∷ l) l ≡ z ∷ rest → lt z y ≡ false
  bounded_if y z x l rest true p again h = let e : x ≡ z = cc (h) in subst (λ (w : X). lt w y ≡ false) e p
  bounded_if y z x l rest false p again h = again h

  -- what is first among those that tie with it is one of the list
  bounded : (y z : X) (ys rest : List X) → Above y ys → filter (ties lt z) ys ≡ z ∷ rest → lt z y ≡ false
  bounded y z [] rest up h = absurd (cc (h))
  bounded y z (x ∷ xs) rest up h = bounded_if y z x (filter (ties lt z) xs) rest (ties lt z x) up.0 (λ e. bounded y z xs rest up.1 e) h

  not_less : (b : Bool) → (b ≡ true → b ≡ false) → b ≡ false
  not_less true h = h refl
  not_less false h = refl

  itself : IsStrictWeakOrder lt → (x : X) → lt x x ≡ false
  itself o x = not_less (lt x x) (o.one_way x x)

  filter_itself : IsStrictWeakOrder lt → (x : X) (xs : List X) → filter (ties lt x) (x ∷ xs) ≡ x ∷ filter (ties lt x) xs
  filter_itself o x xs = ap (λ (b : Bool). cond (not b && not b) (x ∷ filter (ties lt x) xs) (filter (ties lt x) xs)) (itself o x)

  rest_equal : (a : X) (l m : List X) (b : Bool) → cond b (a ∷ l) l ≡ cond b (a ∷ m) m → l ≡ m
  rest_equal a l m true h = cc (h)
  rest_equal a l m false h = h

  tied : (y z : X) → lt z y ≡ false → lt y z ≡ false → ties lt y z ≡ true
  tied y z p q = rw (q, p) refl

  -- lists in order in which equal ones are in one order are one
  one_order : IsStrictWeakOrder lt → (ys zs : List X) → Up ys → Up zs → ((x : X) → filter (ties lt x) zs ≡ filter (ties lt x) ys) → zs ≡ ys
  one_order o [] [] up up' same = refl
  one_order o [] (z ∷ zs) up up' same =
      let e : z ∷ filter (ties lt z) zs ≡ [] = sym (filter_itself o z zs) ∙ same z in
      absurd (cc (e))
  one_order o (y ∷ ys) [] up up' same =
      let e : [] ≡ y ∷ filter (ties lt y) ys = same y ∙ filter_itself o y ys in
      absurd (cc (e))
  one_order o (y ∷ ys) (z ∷ zs) up up' same =
      let below : lt z y ≡ false = bounded y z (y ∷ ys) (filter (ties lt z) zs) (itself o y, up.0) (sym (same z) ∙ filter_itself o z zs) in
      let above : lt y z ≡ false = bounded z y (z ∷ zs) (filter (ties lt y) ys) (itself o z, up'.0) (same y ∙ filter_itself o y ys) in
      let heads : z ∷ filter (ties lt y) zs ≡ y ∷ filter (ties lt y) ys =
      ap (λ (b : Bool). cond b (z ∷ filter (ties lt y) zs) (filter (ties lt y) zs)) (sym (tied y z below above)) ∙ (same y ∙
      filter_itself o y ys) in
      let e : z ≡ y = cc (heads) in
      let same' : (x : X) → filter (ties lt x) (y ∷ zs) ≡ filter (ties lt x) (y ∷ ys) = subst (λ (w : X). (x : X)
      → filter (ties lt x) (w ∷ zs) ≡ filter (ties lt x) (y ∷ ys)) e same in
      let rest : zs ≡ ys = one_order o ys zs up.1 up'.1 (λ x. rest_equal y (filter (ties lt x) zs) (filter (ties lt x) ys) (ties lt x y)
      (same' x)) in
      cc (e, rest)

  one_sort : IsStrictWeakOrder lt → (xs ys zs : List X) → IsSortedBy lt ys → IsSortedBy lt zs → IsStableBy lt xs ys
      → IsStableBy lt xs zs → zs ≡ ys
  one_sort o xs ys zs up up' stable stable' =
      one_order o ys zs (up_of ys (sorted_far lt o ys up)) (up_of zs (sorted_far lt o zs up')) (λ x. stable' x ∙ sym (stable x))

module _ (lt : List ℕ → List ℕ → Bool) (o : IsStrictWeakOrder lt) where
  before_one_way : (x y : Listed) → comes_before lt x y ≡ true → comes_before lt y x ≡ false
  before_one_way (thing.Fault f) (thing.Fault g) h = refl
  before_one_way (thing.Fault f) (thing.Entry b k) h = refl
  before_one_way (thing.Entry a k) (thing.Fault g) h = absurd (cc (h))
  before_one_way (thing.Entry a k) (thing.Entry b k') h = o.one_way a b h

  before_chain : (x y z : Listed) → comes_before lt x y ≡ false → comes_before lt y z ≡ false → comes_before lt x z ≡ false
  before_chain (thing.Fault f) (thing.Fault g) (thing.Fault h) p q = refl
  before_chain (thing.Fault f) (thing.Fault g) (thing.Entry c k) p q = absurd (cc (q))
  before_chain (thing.Fault f) (thing.Entry b k) z p q = absurd (cc (p))
  before_chain (thing.Entry a k) y (thing.Fault h) p q = refl
  before_chain (thing.Entry a k) (thing.Fault g) (thing.Entry c k') p q = absurd (cc (q))
  before_chain (thing.Entry a k) (thing.Entry b k') (thing.Entry c k'') p q = o.chain a b c p q

  -- where names are in an order, listed things are
  pub before_order : IsStrictWeakOrder (comes_before lt)
  before_order = record { one_way = before_one_way; chain = before_chain }

pub one_arrangement : (order : Option (List ℕ → List ℕ → List ℕ → Bool)) (dir : List ℕ) (xs ys zs : List Listed)
    → IsOrdered order → IsArranged order dir xs ys → IsArranged order dir xs zs → zs ≡ ys
one_arrangement None dir xs ys zs o a b = b ∙ sym a
one_arrangement (Some order) dir xs ys zs o a b =
    one_sort (comes_before (order dir)) (before_order (order dir) (o dir)) xs ys zs a.1 b.1 a.2 b.2
