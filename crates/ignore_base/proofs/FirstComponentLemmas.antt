-- The first component of names that are joined.
use Rattle.std.proofs.Common.{◌≡◌, ℕ, zero, suc, true, false, List, [], ◌∷◌, ◌++◌, refl, sym, ap, ◌∙◌, arith, inl, inr, append_assoc}
use Rattle.std.proofs.Common.{eqb-true, Contains}
use Rattle.std.proofs.lemmas.Bool.{cond-true, cond-false, false_from_ne_true}
use Rattle.std.proofs.lemmas.List.{append-nil}
use Rattle.ignore_base.specs.Text.{is_slash}
use Rattle.ignore_base.specs.Paths.{joined, is_absolute, IsEnd}
use Rattle.ignore_base.proofs.ComponentLemmas.{first_component, first_component-slash}

pub first_component-whole : (xs : List ℕ) → ¬ Contains xs 47 → first_component xs ≡ xs
first_component-whole [] h = refl
first_component-whole (x ∷ xs) h =
    let no : is_slash x ≡ false = false_from_ne_true _ (λ e. h (zero, omega arith, eqb-true x 47 e)) in
    cond-false (is_slash x) [] (x ∷ first_component xs) no
    ∙ ap (λ l. x ∷ l) (first_component-whole xs (λ w. h (suc w.0, omega (arith, w.1), w.2)))

pub first_component-joined : (x : List ℕ) (xs : List (List ℕ)) (end : List ℕ) → ¬ Contains x 47 → IsEnd end
    → first_component (joined (x ∷ xs) ++ end) ≡ x
first_component-joined x [] end h (inl e) =
    ap (λ r. first_component (x ++ r)) e ∙ ap first_component (append-nil x) ∙ first_component-whole x h
first_component-joined x [] end h (inr e) = ap (λ r. first_component (x ++ r)) e ∙ first_component-slash x [] ∙ first_component-whole x h
first_component-joined x (y ∷ xs) end h e =
    ap first_component (append_assoc x (47 ∷ joined (y ∷ xs)) end) ∙ first_component-slash x (joined (y ∷ xs) ++ end)
    ∙ first_component-whole x h

pub first_component-absolute : (xs : List ℕ) → is_absolute xs ≡ true → first_component xs ≡ []
first_component-absolute [] e = refl
first_component-absolute (x ∷ xs) e = cond-true (is_slash x) [] (x ∷ first_component xs) e

pub joined-append : (x : List ℕ) (xs : List (List ℕ)) (y : List ℕ) (ys : List (List ℕ))
    → joined ((x ∷ xs) ++ (y ∷ ys)) ≡ joined (x ∷ xs) ++ 47 ∷ joined (y ∷ ys)
joined-append x [] y ys = refl
joined-append x (z ∷ xs) y ys =
    ap (λ l. x ++ 47 ∷ l) (joined-append z xs y ys) ∙ sym (append_assoc x (47 ∷ joined (z ∷ xs)) (47 ∷ joined (y ∷ ys)))
