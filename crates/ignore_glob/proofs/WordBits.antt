-- Bits of words: what the operations on them do to the sets that they stand for.
use Rattle.std.proofs.Common.{◌≡◌, ◌<◌, ◌≤◌, ◌+◌, ◌-◌, ◌*◌, ◌/◌, ◌%◌, ◌^◌, ◌⊎◌, ◌↔◌, inl, inr, ℕ, zero, suc, Bool, true, List, [], ◌∷◌}
use Rattle.std.proofs.Common.{length, arith, refl, sym, ap, subst, ◌∙◌, slice_get, Some, cond, count_by, pow_pos, w64, eq-eqb, ne_eqb}
use Rattle.std.proofs.Common.{eqb-true}
use Rattle.std.specs.Prelude.{bit_and, bit_or, nat_eq, count_ones}
use Rattle.std.specs.Int.{bit_at, bit_not, trailing_zeros}
use Rattle.std.specs.Simd.Lanes.{mask_l}
use Rattle.std.proofs.lemmas.Bool.{cases_eq, cases_lt}
use Rattle.std.proofs.lemmas.List.{map-id}
use Rattle.std.proofs.lemmas.Nat.{shl_whole, and_le_l, and_le_r}
use Rattle.std.proofs.lemmas.Nat.Bits.{bit_at_or, bit_at_and, bit_at-lt, bit_at-zero, bit_at-suc, bit_at_lowest, bit_at_cat_low}
use Rattle.std.proofs.lemmas.Nat.Bits.{bit_at_cat_high, bit_at_above, bit_at-trailing_zeros, bit_at_set_same, bit_at_set_other}
use Rattle.std.proofs.lemmas.Nat.Bits.{bit_at_clear_same, bit_at_clear_other, same_from_bits}
use Rattle.std.proofs.lemmas.Simd.{ones-mask_l}
use Rattle.ignore_glob.specs.Words.{Has}

pub has_or : (a b p : ℕ) → Has (bit_or a b) p ↔ (Has a p ⊎ Has b p)
has_or a b p =
    let e = bit_at_or a b p in
    let f = bit_at-lt a p in
    let g = bit_at-lt b p in (
      (λ h. elim (cases_eq (bit_at a p) 1) [ inl x ↦ inl x | inr n ↦ inr (omega (arith, e, f, g, h, n)) ]),
      (λ h. elim h [ inl x ↦ omega (arith, e, g, x) | inr y ↦ omega (arith, e, f, y) ]),
    )

pub has_and : (a b p : ℕ) → Has (bit_and a b) p ↔ (Has a p × Has b p)
has_and a b p =
    let e = bit_at_and a b p in
    let f = bit_at-lt a p in
    let g = bit_at-lt b p in
    ((λ h. (omega (arith, e, f, g, h), omega (arith, e, f, g, h))), (λ h. omega (arith, e, h.0, h.1)))

pub has_shift : (a k q : ℕ) → a < 2 ^ 62 → k ≤ 2 → Has (a * 2 ^ k % 2 ^ 64) q ↔ ((p : ℕ) × (q ≡ p + k) × Has a p)
has_shift a k q small few =
    let whole : a * 2 ^ k % 2 ^ 64 ≡ a * 2 ^ k + 0 = let e = shl_whole a 62 k 64 small (omega (arith, few)) in omega (arith, e) in
    let at : bit_at (a * 2 ^ k % 2 ^ 64) q ≡ bit_at (a * 2 ^ k + 0) q = ap (λ x. bit_at x q) whole in (
      (λ h. elim (cases_lt q k) [
        | inl low ↦ absurd (let none = bit_at_cat_low a k 0 q low in let z = bit_at-zero q in omega (arith, h, at, none, z))
        | inr high ↦ (q - k, omega (arith, high), (let same = bit_at_cat_high a k 0 q (pow_pos k) high in omega (arith, h, at, same)))
      ]),
      (λ (p, e, h).
          let same = bit_at_cat_high a k 0 q (pow_pos k) (omega (arith, e)) in
          let back : bit_at a (q - k) ≡ bit_at a p = ap (λ x. bit_at a x) (let f : q - k ≡ p = omega (arith, e) in f) in
          omega (arith, at, same, back, h)),
    )

-- a set within another is no greater a number
pub within_le : (a b : ℕ) → ((p : ℕ) → Has a p → Has b p) → a ≤ b
within_le a b within =
    let same : a ≡ bit_and a b = same_from_bits a (bit_and a b) (λ i.
    let e = bit_at_and a b i in
    let f = bit_at-lt a i in
    let g = bit_at-lt b i in
    elim (cases_eq (bit_at a i) 1) [ inl h ↦ (let k = within i h in omega (arith, e, h, k)) | inr n ↦ omega (arith, e, f, g, n) ]) in
    let l = and_le_r a b in
    omega (arith, same, l)

-- what is in a mask is no more than the mask
pub and_small : (set mask : ℕ) → mask < 2 ^ 62 → bit_and set mask < 2 ^ 62
and_small set mask small = let a = and_le_r set mask in omega (arith, a, small)

pub has_none : (p : ℕ) → Has 0 p → ⊥
has_none p h = let z = bit_at-zero p in omega (arith, h, z)

-- a position of a word is below 64
pub below_64 : (word p : ℕ) → word < 2 ^ 64 → Has word p → p < 64
below_64 word p small h =
    elim (cases_lt p 64) [ inl l ↦ l | inr past ↦ absurd (let z = bit_at_above word 64 p small past in omega (arith, h, z)) ]

-- a word without its lowest position
abbrev pub lowest : ℕ → ℕ
lowest left = trailing_zeros w64 left

abbrev pub dropped : ℕ → ℕ
dropped left = bit_and left (bit_not w64 (1 * 2 ^ lowest left % 2 ^ 64))

abbrev pub put : ℕ → ℕ → ℕ
put found left = bit_or found (1 * 2 ^ lowest left % 2 ^ 64)

module _ (left : ℕ) (some : 0 < left) (fits : left < 2 ^ 64) where
  place : (lowest left < 64) × Has left (lowest left)
  place = let l = bit_at-trailing_zeros w64 left some fits in (l.0, l.1)

  pub lowest_there : Has left (lowest left)
  lowest_there = place.1

  pub dropped_less : dropped left < left
  dropped_less =
      let gone : bit_at (dropped left) (lowest left) ≡ 0 = bit_at_clear_same w64 left (lowest left) place.0 in
      let le = and_le_l left (bit_not w64 (1 * 2 ^ lowest left % 2 ^ 64)) in
      let there = place.1 in
      elim (cases_eq (dropped left) left) [
        | inl same ↦ absurd (let both : bit_at (dropped left) (lowest left) ≡ bit_at left (lowest left) =
            ap (λ x. bit_at x (lowest left)) same in
            omega (arith, both, gone, there))
        | inr other ↦ omega (arith, le, other)
      ]

  pub dropped_old : (p : ℕ) → Has (dropped left) p → Has left p
  dropped_old p h = ((has_and left (bit_not w64 (1 * 2 ^ lowest left % 2 ^ 64)) p).0 h).0

  dropped_lowest : Has (dropped left) (lowest left) → ⊥
  dropped_lowest h = let gone : bit_at (dropped left) (lowest left) ≡ 0 = bit_at_clear_same w64 left (lowest left) place.0 in
      omega (arith, h, gone)

  old_dropped : (p : ℕ) → (p ≡ lowest left → ⊥) → Has left p → Has (dropped left) p
  old_dropped p apart h = bit_at_clear_other w64 left (lowest left) place.0 p (below_64 left p fits h) apart ∙ h

  -- what was found of the others is found of all but those still left
  module _ (P : ℕ → Type 0) (found : ℕ) (known : (p : ℕ) → Has found p ↔ (P p × (Has left p → ⊥))) where
    pub found_more : P (lowest left) → (p : ℕ) → Has (put found left) p ↔ (P p × (Has (dropped left) p → ⊥))
    found_more holds p = elim (cases_eq p (lowest left)) [
      | inl same ↦ (
        (λ h. (subst P (sym same) holds, (λ d. dropped_lowest (subst (λ (k : ℕ). Has (dropped left) k) same d)))),
        (λ h. subst (λ (k : ℕ). Has (put found left) k) (sym same) (bit_at_set_same w64 found (lowest left) place.0)),
      )
      | inr apart ↦ let other = bit_at_set_other w64 found (lowest left) place.0 p apart in (
        (λ h. let both = (known p).0 (sym other ∙ h) in (both.0, (λ d. both.1 (dropped_old p d)))),
        (λ h. other ∙ (known p).1 (h.0, (λ l. h.1 (old_dropped p apart l)))),
      )
    ]

    pub found_same : (P (lowest left) → ⊥) → (p : ℕ) → Has found p ↔ (P p × (Has (dropped left) p → ⊥))
    found_same fails p = (
      (λ h. let both = (known p).0 h in (both.0, (λ d. both.1 (dropped_old p d)))),
      (λ h. elim (cases_eq p (lowest left)) [
        | inl same ↦ absurd (fails (subst P same h.0))
        | inr apart ↦ (known p).1 (h.0, (λ l. h.1 (old_dropped p apart l)))
      ]),
    )

-- the lowest k bits as flags
abbrev pub flags_of : ℕ → ℕ → List Bool
flags_of zero word = []
flags_of (suc k) word = nat_eq (bit_at word 0) 1 ∷ flags_of k (word / 2)

pub flags_of-length : (k word : ℕ) → length (flags_of k word) ≡ k
flags_of-length zero word = refl
flags_of-length (suc k) word = let e = flags_of-length k (word / 2) in omega (arith, e)

pub flag_has : (k word p : ℕ) → slice_get (flags_of k word) p ≡ Some true → Has word p
flag_has zero word zero f = absurd (cc f)
flag_has zero word (suc p) f = absurd (cc f)
flag_has (suc k) word zero f = let e : nat_eq (bit_at word 0) 1 ≡ true = cc f in eqb-true (bit_at word 0) 1 e
flag_has (suc k) word (suc p) f = bit_at-suc word p ∙ flag_has k (word / 2) p f

pub has_flag : (k word p : ℕ) → p < k → Has word p → slice_get (flags_of k word) p ≡ Some true
has_flag zero word p l h = absurd (omega (arith, l))
has_flag (suc k) word zero l h = ap (λ b. Some b) (eq-eqb (bit_at word 0) 1 h)
has_flag (suc k) word (suc p) l h = has_flag k (word / 2) p (omega (arith, l)) (sym (bit_at-suc word p) ∙ h)

bit_one : (word : ℕ) → cond (nat_eq (bit_at word 0) 1) 1 0 ≡ word % 2
bit_one word =
    let low = bit_at_lowest word in
    elim (cases_eq (bit_at word 0) 1) [
      | inl one ↦ ap (λ b. cond b 1 0) (eq-eqb (bit_at word 0) 1 one) ∙ omega (arith, low, one)
      | inr other ↦ ap (λ b. cond b 1 0) (ne_eqb (bit_at word 0) 1 other) ∙ omega (arith, low, other)
    ]

word_is : (k word : ℕ) → ((p : ℕ) → Has word p → p < k) → mask_l (flags_of k word) ≡ word
word_is zero word below = same_from_bits 0 word (λ i.
    let z = bit_at-zero i in
    let f = bit_at-lt word i in
    elim (cases_eq (bit_at word i) 1) [ inl h ↦ absurd (let l = below i h in omega (arith, l)) | inr n ↦ omega (arith, z, f, n) ])
word_is (suc k) word below =
    let more = word_is k (word / 2) (λ p h. let l = below (suc p) (bit_at-suc word p ∙ h) in omega (arith, l)) in
    let one = bit_one word in
    omega (arith, more, one)

-- the bits that are set are as many as the flags
pub ones_flags : (k word : ℕ) → ((p : ℕ) → Has word p → p < k) → count_ones word ≡ count_by (λ b. b) (flags_of k word)
ones_flags k word below =
    ap count_ones (sym (word_is k word below) ∙ ap mask_l (sym (map-id (flags_of k word)))) ∙ ones-mask_l (λ b. b) (flags_of k word)
