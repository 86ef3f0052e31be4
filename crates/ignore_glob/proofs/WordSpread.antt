-- A sum carries each position of a set past the free positions that follow it without a gap.
use Rattle.std.proofs.Common.{◌≡◌, ◌<◌, ◌+◌, ◌/◌, ◌%◌, ◌⊎◌, ◌↔◌, inl, inr, ℕ, zero, suc, arith, ap, ◌∙◌}
use Rattle.std.specs.Prelude.{bit_and, bit_or, bit_xor, min, max}
use Rattle.std.specs.Int.{bit_at}
use Rattle.std.proofs.lemmas.Bool.{cases_eq}
use Rattle.std.proofs.lemmas.Nat.{and_shr, or_shr, xor_shr}
use Rattle.std.proofs.lemmas.Nat.Bits.{bit_at_or, bit_at_and, bit_at_xor, bit_at-lt, bit_at-suc, bit_at_lowest}
use Rattle.ignore_glob.specs.Words.{Has}

-- with a carry from the right
abbrev pub carried : ℕ → ℕ → ℕ → ℕ
carried set free carry = bit_or set (bit_xor (bit_and set free + free + carry) free)

-- the carry to the left of the lowest position
abbrev on : ℕ → ℕ → ℕ → ℕ
on set free carry = min (free % 2) (max (set % 2) carry)

module _ (set free carry : ℕ) (one : carry < 2) where
  low_and : bit_and set free % 2 ≡ min (set % 2) (free % 2)
  low_and =
      let e = bit_at_and set free 0 in
      let a = bit_at_lowest (bit_and set free) in
      let b = bit_at_lowest set in
      let c = bit_at_lowest free in
      omega (arith, e, a, b, c)

  half_sum : (bit_and set free + free + carry) / 2 ≡ bit_and (set / 2) (free / 2) + free / 2 + on set free carry
  half_sum =
      let low = low_and in
      let high : bit_and set free / 2 ≡ bit_and (set / 2) (free / 2) = and_shr set free 1 in
      omega (arith, low, high, one)

  pub half : carried set free carry / 2 ≡ carried (set / 2) (free / 2) (on set free carry)
  half =
      let sum : ℕ = bit_and set free + free + carry in
      let a : carried set free carry / 2 ≡ bit_or (set / 2) (bit_xor sum free / 2) = or_shr set (bit_xor sum free) 1 in
      let b : bit_xor sum free / 2 ≡ bit_xor (sum / 2) (free / 2) = xor_shr sum free 1 in
      a ∙ (ap (λ x. bit_or (set / 2) x) b ∙ ap (λ x. bit_or (set / 2) (bit_xor x (free / 2))) half_sum)

  on_small : on set free carry < 2
  on_small = omega arith

  pub first_bit : bit_at (carried set free carry) 0 ≡ max (set % 2) carry
  first_bit =
      let sum : ℕ = bit_and set free + free + carry in
      let low = low_and in
      let a = bit_at_or set (bit_xor sum free) 0 in
      let b = bit_at_xor sum free 0 in
      let c = bit_at_lowest set in
      let d = bit_at_lowest sum in
      let e = bit_at_lowest free in
      omega (arith, a, b, c, d, e, low, one)

-- a position is there if it was, or if the one before is there and is free
pub next_bit : (p set free carry : ℕ) → carry < 2
    → bit_at (carried set free carry) (suc p) ≡ max (bit_at set (suc p)) (min (bit_at (carried set free carry) p) (bit_at free p))
next_bit zero set free carry one =
    let a = bit_at-suc (carried set free carry) 0 in
    let b = ap (λ x. bit_at x 0) (half set free carry one) in
    let c = first_bit (set / 2) (free / 2) (on set free carry) (on_small set free carry one) in
    let d = first_bit set free carry one in
    let e = bit_at-suc set 0 in
    let f = bit_at_lowest (set / 2) in
    let g = bit_at_lowest free in
    omega (arith, a, b, c, d, e, f, g)
next_bit (suc p) set free carry one =
    let a = bit_at-suc (carried set free carry) (suc p) in
    let b = ap (λ x. bit_at x (suc p)) (half set free carry one) in
    let c = next_bit p (set / 2) (free / 2) (on set free carry) (on_small set free carry one) in
    let d = bit_at-suc (carried set free carry) p in
    let e = ap (λ x. bit_at x p) (half set free carry one) in
    let f = bit_at-suc set (suc p) in
    let g = bit_at-suc free p in
    omega (arith, a, b, c, d, e, f, g)

-- the sum without a carry
abbrev pub spread : ℕ → ℕ → ℕ
spread set free = bit_or set (bit_xor (bit_and set free + free) free)

spread_is : (set free : ℕ) → carried set free 0 ≡ spread set free
spread_is set free =
    let e : bit_and set free + free + 0 ≡ bit_and set free + free = omega arith in
    ap (λ x. bit_or set (bit_xor x free)) e

pub has_first : (set free : ℕ) → Has (spread set free) 0 ↔ Has set 0
has_first set free =
    let a = first_bit set free 0 (omega arith) in
    let b = ap (λ x. bit_at x 0) (spread_is set free) in
    let c = bit_at_lowest set in
    ((λ h. omega (arith, a, b, c, h)), (λ h. omega (arith, a, b, c, h)))

pub has_next : (set free p : ℕ) → Has (spread set free) (suc p) ↔ (Has set (suc p) ⊎ (Has (spread set free) p × Has free p))
has_next set free p =
    let a = next_bit p set free 0 (omega arith) in
    let b = ap (λ x. bit_at x (suc p)) (spread_is set free) in
    let c = ap (λ x. bit_at x p) (spread_is set free) in
    let d = bit_at-lt set (suc p) in
    let e = bit_at-lt (spread set free) p in
    let f = bit_at-lt free p in (
      (λ h. elim (cases_eq (bit_at set (suc p)) 1) [
        | inl old ↦ inl old
        | inr new ↦ inr (omega (arith, a, b, c, d, e, f, h, new), omega (arith, a, b, c, d, e, f, h, new))
      ]),
      (λ h. elim h [
        | inl old ↦ (let g = bit_at-lt (spread set free) (suc p) in omega (arith, a, b, old, g))
        | inr both ↦ (let x = both.0 in let y = both.1 in let g = bit_at-lt (spread set free) (suc p) in omega (arith, a, b, c, x, y, g))
      ]),
    )
