-- The last item of a list, and another in its place.
use Rattle.std.proofs.Common.{◌≡◌, ℕ, suc, ◌+◌, List, [], ◌∷◌, ◌++◌, length, get_or, take, sym, ap, ◌∙◌, arith}
use Rattle.std.proofs.Math.ListN.{set}
use Rattle.std.proofs.Math.Seq.{take-suc, take-suc-set}
use Rattle.std.proofs.lemmas.List.{length-append, length-set, take-set-le, take_all, take_at}

pub last_split : {A : Type 0} (xs : List A) (k : ℕ) (x : A) → length xs ≡ suc k → x ≡ get_or xs k x → xs ≡ take k xs ++ x ∷ []
last_split xs k x size is =
    sym (take_all (suc k) xs (omega arith)) ∙ (take-suc xs k x (omega arith) ∙ ap (λ y. take k xs ++ y ∷ []) (sym is))

pub last_set : {A : Type 0} (xs : List A) (k : ℕ) (y : A) → length xs ≡ suc k → set xs k y ≡ take k xs ++ y ∷ []
last_set xs k y size =
    let same : length (set xs k y) ≡ length xs = length-set xs k y in
    sym (take_all (suc k) (set xs k y) (omega arith)) ∙ take-suc-set xs k y (omega arith)

-- what stands before the last item stays
pub last_left : {A : Type 0} (xs ys : List A) (k : ℕ) (x y z : A) → length xs ≡ suc k → x ≡ get_or xs k x → set xs k y ≡ ys ++ z ∷ []
    → xs ≡ ys ++ x ∷ []
last_left xs ys k x y z size is e =
    let same : length (set xs k y) ≡ length xs = length-set xs k y in
    let whole : length (set xs k y) ≡ length ys + 1 = ap length e ∙ length-append ys (z ∷ []) in
    let front : length ys ≡ k = omega arith in
    let before : take k xs ≡ ys = sym (take-set-le k xs k y (omega arith)) ∙ (ap (take k) e ∙ take_at ys (z ∷ []) k front) in
    last_split xs k x size is ∙ ap (λ l. l ++ x ∷ []) before

pub last_popped : {A : Type 0} (xs ys : List A) (k : ℕ) (x y : A) → length xs ≡ suc k → x ≡ get_or xs k x → ys ≡ take k (set xs k y)
    → xs ≡ ys ++ x ∷ []
last_popped xs ys k x y size is e = last_split xs k x size is ∙ ap (λ l. l ++ x ∷ []) (sym (e ∙ take-set-le k xs k y (omega arith)))
