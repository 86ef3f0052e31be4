-- Texts that are sorted stand in one order.
use Rattle.std.proofs.Common.{◌≡◌, ℕ, suc, ◌≤◌, Bool, true, false, cond, List, [], ◌∷◌, get_or, IsSorted, refl, sym, ap, ◌∙◌, arith}
use Rattle.std.proofs.Common.{add-one}
use Rattle.std.specs.List.{sum_by}
use Rattle.std.specs.Ordering.{is_lt}
use Rattle.std.specs.declared.cmp.Ordering.{Ordering}
use Rattle.std.specs.declared.cmp.Ordering.TheVariants.{Less, Equal, Greater}
use Rattle.std.proofs.lemmas.Bool.{false≢true}
use Rattle.std.proofs.lemmas.List.Elements.{All-from_get_or}
use Rattle.std.proofs.lemmas.List.Sorted.{ranks_by, sorted_far}
use Rattle.std.proofs.lemmas.List.Sums.{sum_by-cons, sum_by-le}
use Rattle.ignore_types.specs.Types.{text_cmp}
use Rattle.ignore_types.proofs.TextOrder.{order, same_from_equal, less_from_greater}

-- whatever is counted of the texts, both lists have as much of it
abbrev pub Alike : List (List ℕ) → List (List ℕ) → Type 0
Alike xs ys = (f : List ℕ → ℕ) → sum_by f xs ≡ sum_by f ys

-- one, or nothing
abbrev one_if : Bool → ℕ
one_if below = cond below 1 0

-- one for a text below this one
abbrev lower : List ℕ → List ℕ → ℕ
lower x y = one_if (is_lt (text_cmp y x))

not_lower : (below : Bool) → one_if below ≡ 0 → below ≡ false
not_lower true e = let clash : ⊥ = omega (arith, e) in absurd clash
not_lower false e = refl

-- no text of a sorted list is below its first
none_lower : (x : List ℕ) (xs : List (List ℕ)) → IsSorted text_cmp (x ∷ xs) → sum_by (lower x) (x ∷ xs) ≡ 0
none_lower x xs sorted =
    let each = sum_by-le (lower x) 0 (x ∷ xs) (All-from_get_or (λ y. lower x y ≤ 0) (x ∷ xs) x (λ i within.
    let far : is_lt (text_cmp (get_or (x ∷ xs) i x) x) ≡ false =
    sorted_far (λ a b. is_lt (text_cmp a b)) (ranks_by order (λ y. y)) (x ∷ xs) sorted 0 i x (omega arith) within in
    omega (arith, ap one_if far))) in
    omega (arith, each)

-- the first of a list isn't below the first of a sorted one that is alike
first_not_lower : (x y : List ℕ) (xs ys : List (List ℕ)) → Alike (x ∷ xs) (y ∷ ys) → IsSorted text_cmp (y ∷ ys)
    → is_lt (text_cmp x y) ≡ false
first_not_lower x y xs ys alike sorted =
    not_lower (is_lt (text_cmp x y)) (omega (arith, sum_by-cons (lower y) x xs, alike (lower y), none_lower y ys sorted))

neither_lower : (x y : List ℕ) → is_lt (text_cmp x y) ≡ false → is_lt (text_cmp y x) ≡ false → x ≡ y
neither_lower x y h k = by_order (text_cmp x y) refl
  where
    by_order : (o : Ordering) → text_cmp x y ≡ o → x ≡ y
    by_order Less e = absurd (false≢true (sym h ∙ ap is_lt e))
    by_order Equal e = same_from_equal x y e
    by_order Greater e = absurd (false≢true (sym k ∙ ap is_lt (less_from_greater x y e)))

IsSorted-tail : (x : List ℕ) (xs : List (List ℕ)) → IsSorted text_cmp (x ∷ xs) → IsSorted text_cmp xs
IsSorted-tail x xs sorted k d low within = rw add-one (rw add-one at (sorted (suc k) d (omega arith) (omega arith)))

-- two sorted lists of the same texts are one
pub sorted_one : (xs ys : List (List ℕ)) → Alike xs ys → IsSorted text_cmp xs → IsSorted text_cmp ys → xs ≡ ys
sorted_one [] [] alike h k = refl
sorted_one [] (y ∷ ys) alike h k =
    let clash : ⊥ = omega (arith, alike (λ z. 1), sum_by-cons (λ z. 1) y ys) in absurd clash
sorted_one (x ∷ xs) [] alike h k =
    let clash : ⊥ = omega (arith, alike (λ z. 1), sum_by-cons (λ z. 1) x xs) in absurd clash
sorted_one (x ∷ xs) (y ∷ ys) alike h k =
    let same : x ≡ y = neither_lower x y (first_not_lower x y xs ys alike k) (first_not_lower y x ys xs (λ f. sym (alike f)) h) in
    let rest : Alike xs ys = λ f. omega (arith, alike f, sum_by-cons f x xs, sum_by-cons f y ys, ap f same) in
    ap (λ (z : List ℕ). z ∷ xs) same
    ∙ ap (λ (zs : List (List ℕ)). y ∷ zs) (sorted_one xs ys rest (IsSorted-tail x xs h) (IsSorted-tail y ys k))
