-- Lists whose elements are seen through a function.
use Rattle.std.proofs.Common.{◌≡◌, ℕ, zero, suc, ◌<◌, Bool, false, ◌&&◌, List, [], ◌∷◌, map, length, get_or, refl, ap, arith, add-one}
use Rattle.std.specs.List.{AllZip}
use Rattle.std.specs.List.Sorted.{IsSortedBy}
use Rattle.std.specs.Cmp.Lexicographic.{pointwise}

pub pointwise-map : {A B : Type 0} (E : B → B → Bool) (f : A → B) (xs ys : List A)
    → pointwise (λ x y. E (f x) (f y)) xs ys ≡ pointwise E (map f xs) (map f ys)
pointwise-map E f [] [] = refl
pointwise-map E f [] (y ∷ ys) = refl
pointwise-map E f (x ∷ xs) [] = refl
pointwise-map E f (x ∷ xs) (y ∷ ys) = ap (λ b. E (f x) (f y) && b) (pointwise-map E f xs ys)

pub map-same : {A B : Type 0} (f : A → B) (xs ys : List A) → AllZip (λ x y. f y ≡ f x) xs ys → map f ys ≡ map f xs
map-same f [] [] same = refl
map-same f [] (y ∷ ys) same = absurd same
map-same f (x ∷ xs) [] same = absurd same
map-same f (x ∷ xs) (y ∷ ys) same = λ i. same.0 i ∷ map-same f xs ys same.1 i

-- the element in a place, as the function makes it
pub map-at : {A B : Type 0} (f : A → B) (xs : List A) (i : ℕ) (x : A) (d : B) → i < length xs → x ≡ get_or xs i x
    → f x ≡ get_or (map f xs) i d
map-at f [] i x d within read = absurd (omega arith)
map-at f (y ∷ ys) zero x d within read = ap f read
map-at f (y ∷ ys) (suc i) x d within read = map-at f ys i x d (omega arith) read

neighbours-map : {A B : Type 0} (lt : B → B → Bool) (f : A → B) (xs : List A)
    → ((k : ℕ) (d : A) → suc k < length xs → lt (f (get_or xs (suc k) d)) (f (get_or xs k d)) ≡ false)
    → (k : ℕ) (d : B) → suc k < length (map f xs) → lt (get_or (map f xs) (suc k) d) (get_or (map f xs) k d) ≡ false
neighbours-map lt f [] sorted k d within = absurd (omega arith)
neighbours-map lt f (x ∷ []) sorted k d within = absurd (omega arith)
neighbours-map lt f (x ∷ (y ∷ xs)) sorted zero d within = sorted 0 x (omega arith)
neighbours-map lt f (x ∷ (y ∷ xs)) sorted (suc k) d within =
    neighbours-map lt f (y ∷ xs) (λ j e low. sorted (suc j) e (omega arith)) k d (omega arith)

pub IsSortedBy-map : {A B : Type 0} (lt : B → B → Bool) (f : A → B) (xs : List A) → IsSortedBy (λ x y. lt (f x) (f y)) xs
    → IsSortedBy lt (map f xs)
IsSortedBy-map lt f xs sorted k d low within =
    rw add-one (neighbours-map lt f xs (λ j e high. rw add-one at (sorted j e (omega arith) (omega arith))) k d (omega arith))
