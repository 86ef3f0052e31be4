-- Lists of choices and globs, one at a time.
use Rattle.std.proofs.Common.{◌≡◌, ℕ, zero, suc, ◌+◌, ◌<◌, List, [], ◌∷◌, ◌++◌, length, get_or, take, drop, map, sym, ap, inl, inr, arith}
use Rattle.std.proofs.Common.{add-one}
use Rattle.std.specs.List.{AllZip}

-- a list is what stands before an element, the element and what stands after it
pub split-at : {A : Type 0} (xs : List A) (i : ℕ) (x : A) → i < length xs → x ≡ get_or xs i x → xs ≡ take i xs ++ x ∷ drop (suc i) xs
split-at [] i x within read = absurd (omega arith)
split-at (y ∷ ys) zero x within read = λ j. sym read j ∷ ys
split-at (y ∷ ys) (suc i) x within read = ap (λ l. y ∷ l) (split-at ys i x (omega arith) read)

-- the same of what a function makes of the elements
pub split-map : {A B : Type 0} (f : A → B) (xs : List A) (i : ℕ) (x : A) → i < length xs → x ≡ get_or xs i x
    → map f xs ≡ map f (take i xs) ++ f x ∷ map f (drop (suc i) xs)
split-map f [] i x within read = absurd (omega arith)
split-map f (y ∷ ys) zero x within read = λ j. f (sym read j) ∷ map f ys
split-map f (y ∷ ys) (suc i) x within read = ap (λ l. f y ∷ l) (split-map f ys i x (omega arith) read)

take-suc : {A : Type 0} (xs : List A) (i : ℕ) (x : A) → i < length xs → x ≡ get_or xs i x → take (suc i) xs ≡ take i xs ++ x ∷ []
take-suc [] i x within read = absurd (omega arith)
take-suc (y ∷ ys) zero x within read = λ j. sym read j ∷ []
take-suc (y ∷ ys) (suc i) x within read = ap (λ l. y ∷ l) (take-suc ys i x (omega arith) read)

pub take-push : {A : Type 0} (xs : List A) (i : ℕ) (x : A) → i < length xs → x ≡ get_or xs i x → take (i + 1) xs ≡ take i xs ++ x ∷ []
take-push xs i x within read = rw add-one (take-suc xs i x within read)

map-take-suc : {A B : Type 0} (f : A → B) (xs : List A) (i : ℕ) (x : A) → i < length xs → x ≡ get_or xs i x
    → map f (take (suc i) xs) ≡ map f (take i xs) ++ f x ∷ []
map-take-suc f [] i x within read = absurd (omega arith)
map-take-suc f (y ∷ ys) zero x within read = λ j. f (sym read j) ∷ []
map-take-suc f (y ∷ ys) (suc i) x within read = ap (λ l. f y ∷ l) (map-take-suc f ys i x (omega arith) read)

pub map-take-push : {A B : Type 0} (f : A → B) (xs : List A) (i : ℕ) (x : A) → i < length xs → x ≡ get_or xs i x
    → map f (take (i + 1) xs) ≡ map f (take i xs) ++ f x ∷ []
map-take-push f xs i x within read = rw add-one (map-take-suc f xs i x within read)

-- one more, of two lists of different things
pub AllZip-push : {A B : Type 0} (R : A → B → Type 0) (xs : List A) (ys : List B) (x : A) (y : B) → AllZip R xs ys → R x y
    → AllZip R (xs ++ x ∷ []) (ys ++ y ∷ [])
AllZip-push R [] [] x y all one = (one, tt)
AllZip-push R [] (b ∷ ys) x y all one = absurd all
AllZip-push R (a ∷ xs) [] x y all one = absurd all
AllZip-push R (a ∷ xs) (b ∷ ys) x y all one = (all.0, AllZip-push R xs ys x y all.1 one)
