-- Lists without duplicates: joined and mapped ones, and one whose elements another list has is no
-- longer than it.
use Rattle.std.proofs.Common.{◌≡◌, ◌≤◌, ◌+◌, inl, inr, ℕ, zero, suc, List, [], ◌∷◌, ◌++◌, length, map, arith, slice_get, Some, refl}
use Rattle.std.proofs.Common.{sym, ◌∙◌, ap, subst}
use Rattle.std.specs.Prelude.{Contains}
use Rattle.std.proofs.lemmas.Option.{slice_get_within, slice_get-get_or, get_or_from_slice_get}
use Rattle.std.proofs.lemmas.List.Elements.{Contains-append_cases}
use Rattle.ignore_glob.specs.Positions.{HasNoDuplicates}

pub contains_at : {X : Type 0} → (xs : List X) (x : X) → Contains xs x → (k : ℕ) × (slice_get xs k ≡ Some x)
contains_at xs x h = (h.0, slice_get-get_or xs h.0 x h.1 ∙ ap (λ y. Some y) h.2)

pub at_contains : {X : Type 0} → (xs : List X) (k : ℕ) (x : X) → slice_get xs k ≡ Some x → Contains xs x
at_contains xs k x at = (k, slice_get_within xs k x at, get_or_from_slice_get xs k x x at)

pub get_front : {X : Type 0} → (xs ys : List X) (i : ℕ) (x : X) → slice_get xs i ≡ Some x → slice_get (xs ++ ys) i ≡ Some x
get_front [] ys i x at = absurd (cc at)
get_front (y ∷ xs) ys zero x at = at
get_front (y ∷ xs) ys (suc i) x at = get_front xs ys i x at

pub get_seam : {X : Type 0} → (xs : List X) (x : X) (ys : List X) → slice_get (xs ++ x ∷ ys) (length xs) ≡ Some x
get_seam [] x ys = refl
get_seam (y ∷ xs) x ys = get_seam xs x ys

-- an element stands at one place alone
pub unique_at : {X : Type 0} → (xs : List X) (i j : ℕ) (x : X) → HasNoDuplicates xs → slice_get xs i ≡ Some x → slice_get xs j ≡ Some x
    → i ≡ j
unique_at [] i j x once a b = absurd (cc a)
unique_at (y ∷ ys) zero zero x once a b = refl
unique_at (y ∷ ys) zero (suc j) x once a b = let same : slice_get ys j ≡ Some y = cc (a, b) in absurd (once.0 (at_contains ys j y same))
unique_at (y ∷ ys) (suc i) zero x once a b = let same : slice_get ys i ≡ Some y = cc (a, b) in absurd (once.0 (at_contains ys i y same))
unique_at (y ∷ ys) (suc i) (suc j) x once a b = let e = unique_at ys i j x once.1 a b in omega (arith, e)

pub append_once : {X : Type 0} → (xs ys : List X) → HasNoDuplicates xs → HasNoDuplicates ys → ((x : X) → Contains xs x → Contains ys x → ⊥)
    → HasNoDuplicates (xs ++ ys)
append_once [] ys a b apart = b
append_once (x ∷ xs) ys a b apart = (
  (λ h. elim (Contains-append_cases xs ys x h) [ inl l ↦ a.0 l | inr r ↦ apart x (0, omega arith, refl) r ]),
  append_once xs ys a.1 b (λ z h k. apart z (let at = contains_at xs z h in at_contains (x ∷ xs) (suc at.0) z at.1) k),
)

-- the elements of a mapped list
pub map_contains : {X Y : Type 0} → (f : X → Y) (xs : List X) (y : Y) → Contains (map f xs) y → (x : X) × Contains xs x × (f x ≡ y)
map_contains f [] y h = absurd (omega (arith, h.1))
map_contains f (x ∷ xs) y (zero, l, e) = (x, (0, omega arith, refl), e)
map_contains f (x ∷ xs) y (suc k, l, e) =
    let found = map_contains f xs y (k, omega (arith, l), e) in let at = contains_at xs found.0 found.1 in
    (found.0, at_contains (x ∷ xs) (suc at.0) found.0 at.1, found.2)

pub contains_map : {X Y : Type 0} → (f : X → Y) (xs : List X) (x : X) → Contains xs x → Contains (map f xs) (f x)
contains_map f [] x h = absurd (omega (arith, h.1))
contains_map f (z ∷ xs) x (zero, l, e) = (0, omega arith, ap f e)
contains_map f (z ∷ xs) x (suc k, l, e) =
    let at = contains_at (map f xs) (f x) (contains_map f xs x (k, omega (arith, l), e)) in
    at_contains (f z ∷ map f xs) (suc at.0) (f x) at.1

pub map_once : {X Y : Type 0} → (f : X → Y) → ((a b : X) → f a ≡ f b → a ≡ b) → (xs : List X) → HasNoDuplicates xs
    → HasNoDuplicates (map f xs)
map_once f one [] h = tt
map_once {X} f one (x ∷ xs) h = (
  (λ k. let found = map_contains f xs (f x) k in let P : X → Type 0 = λ z. Contains xs z in h.0 (subst P (one found.0 x found.2) found.1)),
  map_once f one xs h.1,
)

-- a list without the element at a place
abbrev removed : {X : Type 0} → ℕ → List X → List X
removed k [] = []
removed zero (y ∷ ys) = ys
removed (suc k) (y ∷ ys) = y ∷ removed k ys

removed_length : {X : Type 0} → (ys : List X) (k : ℕ) (x : X) → slice_get ys k ≡ Some x → length (removed k ys) + 1 ≡ length ys
removed_length [] k x at = absurd (cc at)
removed_length (y ∷ ys) zero x at = omega arith
removed_length (y ∷ ys) (suc k) x at = let e = removed_length ys k x at in omega (arith, e)

removed_still : {X : Type 0} → (ys : List X) (k i : ℕ) (x z : X) → slice_get ys k ≡ Some x → slice_get ys i ≡ Some z → (x ≡ z → ⊥)
    → (j : ℕ) × (slice_get (removed k ys) j ≡ Some z)
removed_still [] k i x z at is differs = absurd (cc at)
removed_still (y ∷ ys) zero zero x z at is differs = absurd (differs (cc (at, is)))
removed_still (y ∷ ys) zero (suc i) x z at is differs = (i, is)
removed_still (y ∷ ys) (suc k) zero x z at is differs = (zero, is)
removed_still (y ∷ ys) (suc k) (suc i) x z at is differs = let more = removed_still ys k i x z at is differs in (suc more.0, more.1)

-- a list without duplicates whose elements are all in another is no longer than that
pub no_longer : {X : Type 0} → (xs ys : List X) → HasNoDuplicates xs → ((x : X) → Contains xs x → Contains ys x) → length xs ≤ length ys
no_longer [] ys once within = omega arith
no_longer {X} (x ∷ xs) ys once within =
    let at = contains_at ys x (within x (0, omega arith, refl)) in
    let rest = no_longer xs (removed at.0 ys) once.1 (λ z h.
    let from = contains_at xs z h in
    let is = contains_at ys z (within z (at_contains (x ∷ xs) (suc from.0) z from.1)) in
    let P : X → Type 0 = λ y. Contains xs y in
    let differs : (x ≡ z → ⊥) = λ e. once.0 (subst P (sym e) h) in
    let found = removed_still ys at.0 is.0 x z at.1 is.1 differs in
    at_contains (removed at.0 ys) found.0 z found.1) in
    let len = removed_length ys at.0 x at.1 in
    omega (arith, rest, len)
