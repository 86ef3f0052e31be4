-- Members of lists.
use Rattle.std.proofs.Common.{◌≡◌, ◌⊎◌, Bool, true, false, ◌||◌, Contains, List, [], ◌∷◌, map, Option, None, Some, inl, inr, refl, sym, ap, subst, arith}
use Rattle.std.proofs.lemmas.List.Elements.{Contains-append_cases, Contains-append_left, Contains-append_right, Contains-push, Contains-push_cases}
use Rattle.std.specs.List.{flat_map}
use Rattle.std.specs.Option.{option_or, option_to_list}

pub contains_none : {A : Type 0} (x : A) → Contains [] x → ⊥
contains_none x h = omega (arith, h.1)

pub contains_here : {A : Type 0} (x : A) (xs : List A) → Contains (x ∷ xs) x
contains_here x xs = Contains-append_left (x ∷ []) xs x (Contains-push [] x)

pub contains_there : {A : Type 0} (y : A) (xs : List A) (x : A) → Contains xs x → Contains (y ∷ xs) x
contains_there y xs x h = Contains-append_right (y ∷ []) xs x h

pub contains_cons : {A : Type 0} (y : A) (xs : List A) (x : A) → Contains (y ∷ xs) x → (y ≡ x) ⊎ Contains xs x
contains_cons y xs x h =
    elim (Contains-append_cases (y ∷ []) xs x h) [
      | inl one ↦ elim (Contains-push_cases [] y x one) [ inl none ↦ absurd (contains_none x none) | inr same ↦ inl same ]
      | inr rest ↦ inr rest
    ]

-- a member of one of the lists is a member of all of them together
pub flat_contains : {A B : Type 0} (f : A → List B) (xs : List A) (x : A) (y : B) → Contains xs x → Contains (f x) y → Contains (flat_map f xs) y
flat_contains f [] x y h k = absurd (contains_none x h)
flat_contains f (z ∷ xs) x y h k =
    elim (contains_cons z xs x h) [
      | inl same ↦ Contains-append_left (f z) (flat_map f xs) y (subst (λ (a : _). Contains (f a) y) (sym same) k)
      | inr rest ↦ Contains-append_right (f z) (flat_map f xs) y (flat_contains f xs x y rest k)
    ]

pub contains_flat : {A B : Type 0} (f : A → List B) (xs : List A) (y : B) → Contains (flat_map f xs) y
    → (x : A) × Contains xs x × Contains (f x) y
contains_flat f [] y h = absurd (contains_none y h)
contains_flat f (z ∷ xs) y h =
    elim (Contains-append_cases (f z) (flat_map f xs) y h) [
      | inl here ↦ (z, contains_here z xs, here)
      | inr rest ↦ let k = contains_flat f xs y rest in (k.0, contains_there z xs k.0 k.1, k.2)
    ]

-- a member of what each is mapped to
pub map_contains : {A B : Type 0} (f : A → B) (xs : List A) (x : A) → Contains xs x → Contains (map f xs) (f x)
map_contains f [] x h = absurd (contains_none x h)
map_contains f (z ∷ xs) x h =
    elim (contains_cons z xs x h) [
      | inl same ↦ subst (λ (a : _). Contains (f z ∷ map f xs) (f a)) same (contains_here (f z) (map f xs))
      | inr rest ↦ contains_there (f z) (map f xs) (f x) (map_contains f xs x rest)
    ]

pub contains_map : {A B : Type 0} (f : A → B) (xs : List A) (y : B) → Contains (map f xs) y → (x : A) × Contains xs x × (f x ≡ y)
contains_map f [] y h = absurd (contains_none y h)
contains_map f (z ∷ xs) y h =
    elim (contains_cons (f z) (map f xs) y h) [
      | inl same ↦ (z, contains_here z xs, same)
      | inr rest ↦ let k = contains_map f xs y rest in (k.0, contains_there z xs k.0 k.1, k.2)
    ]

pub contains_option : {A : Type 0} (o : Option A) (x : A) → Contains (option_to_list o) x → o ≡ Some x
contains_option None x h = absurd (contains_none x h)
contains_option (Some a) x h = elim (contains_cons a [] x h) [ inl same ↦ ap Some same | inr none ↦ absurd (contains_none x none) ]

pub or_cases : (a b : Bool) → (a || b) ≡ true → (a ≡ true) ⊎ (b ≡ true)
or_cases true b e = inl refl
or_cases false b e = inr e

pub first_some : {A : Type 0} (a b : Option A) (x : A) → option_or a b ≡ Some x → (a ≡ Some x) ⊎ (b ≡ Some x)
first_some None b x e = inr e
first_some (Some y) b x e = inl e
