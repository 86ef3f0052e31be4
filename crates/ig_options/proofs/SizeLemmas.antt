-- The texts of sizes.
use Rattle.std.proofs.Common.{◌≡◌, ◌≢◌, ◌⊎◌, ◌∙◌, ℕ, ◌==◌, Bool, true, false, cond, eqb-true, List, [], ◌∷◌, ◌++◌, Option, None, Some, MatchOption, refl, sym, ap, subst, inl, inr, arith}
use Rattle.std.proofs.lemmas.Str.Parse.{digit_from_value}
use Rattle.std.specs.Int.{IsInRange}
use Rattle.std.specs.Str.Parse.{AllDigits}
use Rattle.ig_options.specs.Sizes.{IsSize, IsTimes, unit_of}

-- the letters of units
letter_by : (c f : ℕ) (k m g : Bool) → (c == 75) ≡ k → (c == 77) ≡ m → (c == 71) ≡ g
    → cond k (Some 1024) (cond m (Some 1048576) (cond g (Some 1073741824) None)) ≡ Some f → (c ≡ 75) ⊎ ((c ≡ 77) ⊎ (c ≡ 71))
letter_by c f true m g i j l e = inl (eqb-true c 75 i)
letter_by c f false true g i j l e = inr (inl (eqb-true c 77 j))
letter_by c f false false true i j l e = inr (inr (eqb-true c 71 l))
letter_by c f false false false i j l e = cc

letter_is : (c f : ℕ) → unit_of c ≡ Some f → (c ≡ 75) ⊎ ((c ≡ 77) ⊎ (c ≡ 71))
letter_is c f e = letter_by c f (c == 75) (c == 77) (c == 71) refl refl refl e

-- digits don't end in a letter
last_digit : (ds : List ℕ) (c : ℕ) → AllDigits 10 (ds ++ c ∷ []) → IsInRange 48 57 c
last_digit [] c h = digit_from_value c h.0
last_digit (d ∷ ds) c h = last_digit ds c h.1

pub no_letter : (ds : List ℕ) (c f : ℕ) → unit_of c ≡ Some f → ¬ AllDigits 10 (ds ++ c ∷ [])
no_letter ds c f e h = elim (letter_is c f e) [
  | inl k ↦ omega (arith, k, last_digit ds c h)
  | inr (inl m) ↦ omega (arith, m, last_digit ds c h)
  | inr (inr g) ↦ omega (arith, g, last_digit ds c h)
]

-- texts that end in a byte
pub same_ends : (xs ys : List ℕ) (a b : ℕ) → xs ++ a ∷ [] ≡ ys ++ b ∷ [] → (xs ≡ ys) × (a ≡ b)
same_ends [] [] a b e = (refl, (cc))
same_ends [] (y ∷ []) a b e = cc
same_ends [] (y ∷ (z ∷ ys)) a b e = cc
same_ends (x ∷ []) [] a b e = cc
same_ends (x ∷ (z ∷ xs)) [] a b e = cc
same_ends (x ∷ xs) (y ∷ ys) a b e =
    let same : x ≡ y = cc e in
    let rest : xs ++ a ∷ [] ≡ ys ++ b ∷ [] = cc e in
    let h = same_ends xs ys a b rest in
    ((cc (h.0, same)), h.1)

-- a text that ends in the letter of a unit is a size as the digits before it are
pub only_times : (text digits : List ℕ) (c f size : ℕ) → text ≡ digits ++ c ∷ [] → unit_of c ≡ Some f → IsSize text size → IsTimes digits f size
only_times text digits c f size cut unit (inl plain) =
    absurd (no_letter digits c f unit (subst (AllDigits 10) cut plain.0.1))
only_times text digits c f size cut unit (inr (other, d, g, are, is, times)) =
    let same = same_ends other digits d c (sym are ∙ cut) in
    let one : Some g ≡ Some f = sym is ∙ (ap unit_of same.1 ∙ unit) in
    let factor : g ≡ f = cc one in
    subst (λ (n : ℕ). IsTimes digits n size) factor (subst (λ (t : List ℕ). IsTimes t g size) same.0 times)

pub sized : (text digits : List ℕ) (c f : ℕ) (r : Option ℕ) → text ≡ digits ++ c ∷ [] → unit_of c ≡ Some f
    → MatchOption r ((size : ℕ) → ¬ IsTimes digits f size) (IsTimes digits f) → MatchOption r ((size : ℕ) → ¬ IsSize text size) (IsSize text)
sized text digits c f None cut unit h = λ size s. h size (only_times text digits c f size cut unit s)
sized text digits c f (Some size) cut unit h = inr (digits, c, f, cut, unit, h)

-- a text that ends in none of them is one as its digits are
no_unit : (text : List ℕ) (size : ℕ) → ((front : List ℕ) → text ≢ front ++ 75 ∷ []) → ((front : List ℕ) → text ≢ front ++ 77 ∷ [])
    → ((front : List ℕ) → text ≢ front ++ 71 ∷ []) → IsSize text size → IsTimes text 1 size
no_unit text size k m g (inl plain) = plain
no_unit text size k m g (inr (digits, c, f, are, is, times)) = elim (letter_is c f is) [
  | inl e ↦ absurd (k digits (are ∙ ap (λ x. digits ++ x ∷ []) e))
  | inr (inl e) ↦ absurd (m digits (are ∙ ap (λ x. digits ++ x ∷ []) e))
  | inr (inr e) ↦ absurd (g digits (are ∙ ap (λ x. digits ++ x ∷ []) e))
]

pub sized_plain : (text : List ℕ) (r : Option ℕ) → ((front : List ℕ) → text ≢ front ++ 75 ∷ []) → ((front : List ℕ) → text ≢ front ++ 77 ∷ [])
    → ((front : List ℕ) → text ≢ front ++ 71 ∷ []) → MatchOption r ((size : ℕ) → ¬ IsTimes text 1 size) (IsTimes text 1)
    → MatchOption r ((size : ℕ) → ¬ IsSize text size) (IsSize text)
sized_plain text None k m g h = λ size s. h size (no_unit text size k m g s)
sized_plain text (Some size) k m g h = inl h
