-- Texts joined by newlines, one text at a time.
use Rattle.std.proofs.Common.{◌≡◌, ℕ, zero, suc, List, [], ◌∷◌, ◌++◌, take, length, ◌<◌, ◌≤◌, get_or, map, refl, ap, ◌∙◌, append_assoc}
use Rattle.std.proofs.Common.{arith}
use Rattle.std.proofs.lemmas.List.{append-nil}
use Rattle.std.specs.List.{join_with_byte}
use Rattle.ignore_base.proofs.Texts.{text_of}
use Rattle.ignore_base.specs.declared.error.Error.{Error}

-- the texts, each after a separator: the given one, and then newlines
abbrev pub joined_from : List ℕ → List (List ℕ) → List ℕ
joined_from separator [] = []
joined_from separator (text ∷ texts) = separator ++ (text ++ joined_from (10 ∷ []) texts)

-- the separator before the text at an index, where the first is given
abbrev pub separator_from : List ℕ → ℕ → List ℕ
separator_from first zero = first
separator_from first (suc n) = 10 ∷ []

abbrev pub separator_at : ℕ → List ℕ
separator_at = separator_from []

newlines : (n : ℕ) → separator_from (10 ∷ []) n ≡ 10 ∷ []
newlines zero = refl
newlines (suc n) = refl

-- one text more
pub joined_more : (first : List ℕ) (xs : List Error) (i : ℕ) (x : Error) → i < length xs → x ≡ get_or xs i x
    → joined_from first (take (suc i) (map text_of xs))
    ≡ joined_from first (take i (map text_of xs)) ++ (separator_from first i ++ text_of x)
joined_more first [] i x h is = absurd (omega (arith, h))
joined_more first (y ∷ ys) zero x h is = rw (is, append-nil)
joined_more first (y ∷ ys) (suc i) x h is = rw (joined_more (10 ∷ []) ys i x (omega (arith, h)) is, newlines i, append_assoc, append_assoc)

-- after a newline
after_newline : (text : List ℕ) (texts : List (List ℕ)) → joined_from (10 ∷ []) (text ∷ texts) ≡ 10 ∷ join_with_byte 10 (text ∷ texts)
after_newline text [] = ap (λ l. 10 ∷ l) (append-nil text)
after_newline text (next ∷ texts) = ap (λ l. 10 ∷ (text ++ l)) (after_newline next texts)

-- after nothing
joined_from-nil : (texts : List (List ℕ)) → joined_from [] texts ≡ join_with_byte 10 texts
joined_from-nil [] = refl
joined_from-nil (text ∷ []) = append-nil text
joined_from-nil (text ∷ (next ∷ texts)) = ap (λ l. text ++ l) (after_newline next texts)

-- all of them
pub joined_all : (xs : List Error) (i : ℕ) → length xs ≤ i → joined_from [] (take i (map text_of xs)) ≡ join_with_byte 10 (map text_of xs)
joined_all xs i h = all [] xs i h ∙ joined_from-nil (map text_of xs)
  where
    all : (separator : List ℕ) (ys : List Error) (j : ℕ) → length ys ≤ j
        → joined_from separator (take j (map text_of ys)) ≡ joined_from separator (map text_of ys)
    all separator [] zero k = refl
    all separator [] (suc j) k = refl
    all separator (y ∷ ys) zero k = absurd (omega (arith, k))
    all separator (y ∷ ys) (suc j) k = ap (λ l. separator ++ (text_of y ++ l)) (all (10 ∷ []) ys j (omega (arith, k)))
