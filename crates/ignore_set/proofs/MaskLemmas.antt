-- A text has the bits of each text in it.
use Rattle.std.proofs.Common.{◌≡◌, ◌≢◌, ℕ, ◌+◌, ◌-◌, ◌<◌, ◌≤◌, List, [], ◌∷◌, ◌++◌, length, append_assoc, get_or, take, drop, drop-cons, add-one, suc}
use Rattle.std.proofs.Common.{sym, ap, subst, ◌∙◌, arith, inl, inr, set}
use Rattle.std.specs.Prelude.{bit_or}
use Rattle.std.specs.Int.{bit_at}
use Rattle.std.specs.Str.Iter.{HasSubslice}
use Rattle.std.proofs.lemmas.Nat.Bits.{bit_at_or, bit_at-zero, same_from_bits}
use Rattle.std.proofs.lemmas.List.{drop-drop, get_or-set_same, get_or-set_other, take-append-drop}
use Rattle.ignore_set.proofs.IndexLemmas.{split}
use Rattle.ignore_set.specs.Others.{IsMaskOver, bit_of, first_bit, mask_of}

-- each bit of a is one of b
abbrev pub Covers : ℕ → ℕ → Type 0
Covers a b = (i : ℕ) → bit_at a i ≤ bit_at b i

zero_covered : (b : ℕ) → Covers 0 b
zero_covered b i = omega (arith, bit_at-zero i)

same_covered : (a : ℕ) → Covers a a
same_covered a i = omega arith

or_covered : (a b c d : ℕ) → Covers a c → Covers b d → Covers (bit_or a b) (bit_or c d)
or_covered a b c d p q i = omega (arith, bit_at_or a b i, bit_at_or c d i, p i, q i)

first_covered : (a : ℕ) (xs ys : List ℕ) → Covers (first_bit (a ∷ xs)) (first_bit (a ∷ (xs ++ ys)))
first_covered a [] ys = zero_covered (first_bit (a ∷ ys))
first_covered a (b ∷ []) ys = zero_covered (first_bit (a ∷ b ∷ ys))
first_covered a (b ∷ c ∷ xs) ys = same_covered (bit_of a b c)

front_covered : (xs ys : List ℕ) → Covers (mask_of xs) (mask_of (xs ++ ys))
front_covered [] ys = zero_covered (mask_of ys)
front_covered (x ∷ xs) ys = or_covered (first_bit (x ∷ xs)) (mask_of xs) (first_bit (x ∷ (xs ++ ys))) (mask_of (xs ++ ys))
    (first_covered x xs ys) (front_covered xs ys)

back_covered : (xs ys : List ℕ) → Covers (mask_of ys) (mask_of (xs ++ ys))
back_covered [] ys i = same_covered (mask_of ys) i
back_covered (x ∷ xs) ys i = omega (arith, back_covered xs ys i, bit_at_or (first_bit (x ∷ (xs ++ ys))) (mask_of (xs ++ ys)) i)

covered_or : (a b : ℕ) → Covers a b → bit_or a b ≡ b
covered_or a b p = same_from_bits (bit_or a b) b (λ i. omega (arith, bit_at_or a b i, p i))

pub marked_more : (a m b : ℕ) → bit_or a m ≡ m → bit_or a (bit_or m b) ≡ bit_or m b
marked_more a m b e = covered_or a (bit_or m b) (λ i. omega (arith, bit_at_or m b i, bit_at_or a m i, ap (λ k. bit_at k i) e))

pub marked_here : (m b : ℕ) → bit_or b (bit_or m b) ≡ bit_or m b
marked_here m b = covered_or b (bit_or m b) (λ i. omega (arith, bit_at_or m b i))

pub inside_covered : (text needle : List ℕ) → HasSubslice text needle → bit_or (mask_of needle) (mask_of text) ≡ mask_of text
inside_covered text needle (a, b, cut) =
    let all = subst (λ t. Covers (mask_of needle) (mask_of t)) (sym cut)
    (λ i. omega (arith, front_covered needle b i, back_covered a (needle ++ b) i)) in
    covered_or (mask_of needle) (mask_of text) all

-- the mask of what follows an offset is over what follows a later one
pub over_later : (text : List ℕ) (from offset : ℕ) → from ≤ offset → IsMaskOver (drop offset text) (mask_of (drop from text))
over_later text from offset le inside (a, b, cut) =
    let more : from + (offset - from) ≡ offset = omega arith in
    let rest = drop from text in
    let front = take (offset - from) rest in
    let same : rest ≡ front ++ (a ++ (inside ++ b)) =
    sym (take-append-drop (offset - from) rest)
    ∙ ap (λ l. front ++ l) (drop-drop (offset - from) from text ∙ (ap (λ k. drop k text) more ∙ cut)) in
    inside_covered rest inside (front ++ a, b, same ∙ sym (append_assoc front a (inside ++ b)))

pub mask_step : (bytes : List ℕ) (at : ℕ) → at < length bytes
    → mask_of (drop at bytes) ≡ bit_or (first_bit (drop at bytes)) (mask_of (drop (at + 1) bytes))
mask_step bytes at fits =
    let cut = drop-cons bytes at 0 fits in
    rw add-one (ap mask_of cut ∙ ap (λ l. bit_or (first_bit l) (mask_of (drop (suc at) bytes))) (sym cut))

-- The words of a table, once a bit is put into one of them.

abbrev pub put_bit : List ℕ → ℕ → ℕ → List ℕ
put_bit words at bit = set words at (bit_or (get_or words at 0) bit)

pub put_here : (words : List ℕ) (at bit : ℕ) → at < length words
    → bit_or bit (get_or (put_bit words at bit) at 0) ≡ get_or (put_bit words at bit) at 0
put_here words at bit fits =
    subst (λ n. bit_or bit n ≡ n) (sym (get_or-set_same words at (bit_or (get_or words at 0) bit) 0 fits)) (marked_here (get_or words at 0) bit)

pub put_more : (words : List ℕ) (at bit place a : ℕ) → at < length words → bit_or a (get_or words place 0) ≡ get_or words place 0
    → bit_or a (get_or (put_bit words at bit) place 0) ≡ get_or (put_bit words at bit) place 0
put_more words at bit place a fits had = elim (split place at) [
  | inl before ↦ apart (λ e. omega (arith, e, before))
  | inr (inl same) ↦
      subst (λ n. bit_or a n ≡ n) (sym (ap (λ k. get_or (put_bit words at bit) k 0) same
      ∙ get_or-set_same words at (bit_or (get_or words at 0) bit) 0 fits))
      (marked_more a (get_or words at 0) bit (subst (λ k. bit_or a (get_or words k 0) ≡ get_or words k 0) same had))
  | inr (inr later) ↦ apart (λ e. omega (arith, e, later))
]
  where
    apart : place ≢ at → bit_or a (get_or (put_bit words at bit) place 0) ≡ get_or (put_bit words at bit) place 0
    apart differs = subst (λ n. bit_or a n ≡ n) (sym (get_or-set_other words at place (bit_or (get_or words at 0) bit) 0 differs)) had
