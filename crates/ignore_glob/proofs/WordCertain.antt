-- The inside of an end that is the last position leads to the end of each text.
use Rattle.std.proofs.Common.{◌≡◌, ◌<◌, ◌≤◌, ◌+◌, ◌-◌, ◌*◌, ◌%◌, ◌^◌, inl, inr, ℕ, zero, suc, Bool, true, List, length, get_or, arith, refl}
use Rattle.std.proofs.Common.{subst, ap, slice_get, Some}
use Rattle.std.proofs.lemmas.Bool.{cases_eq}
use Rattle.std.proofs.lemmas.Nat.{one_shl}
use Rattle.std.proofs.lemmas.Nat.Bits.{bit_at-pow_other}
use Rattle.std.proofs.lemmas.Option.{slice_get-get_or}
use Rattle.std.specs.Int.{bit_at}
use Rattle.ignore_glob.specs.Nodes.{Node, until_end, here, Marked}
use Rattle.ignore_glob.specs.Words.{Has, is_free, word_of}
use Rattle.ignore_glob.specs.declared.glob.word.Masks.{Masks}
use Rattle.ignore_glob.proofs.MarkSteps.{later, later-sum}
use Rattle.ignore_glob.proofs.MatchingMarks.{marked_on}
use Rattle.ignore_glob.proofs.WordLemmas.{fits, inside_kind, free_kind, inside_end, next_end}

-- the word of one position has no other
pub one_bit : (k p : ℕ) → k < 64 → Has (1 * 2 ^ k % 2 ^ 64) p → p ≡ k
one_bit k p small h = elim (cases_eq p k) [
  | inl same ↦ same
  | inr apart ↦ absurd (let e : bit_at (1 * 2 ^ k % 2 ^ 64) p ≡ bit_at (2 ^ k) p = ap (λ x. bit_at x p) (one_shl k 64 small) in
      let none = bit_at-pow_other k p apart in
      omega (arith, e, none, h))
]

module _ (fold : Bool) (nodes : List Node) (text : List ℕ) where
  stays : (p next : ℕ) → slice_get nodes p ≡ Some (until_end next) → (k o : ℕ) → o + k ≤ length text → Marked fold nodes text o p
      → Marked fold nodes text (later fold nodes text k o) p
  stays p next at zero o l m = m
  stays p next at (suc k) o l m =
      let before = stays p next at k o (omega (arith, l)) m in
      let place = later-sum fold nodes text k o in
      let i : ℕ = later fold nodes text k o in
      here p (get_or text i 0, slice_get-get_or text i 0 (omega (arith, place, l)), (p, until_end next, before, at, refl))

  pub certain : (m : Masks) → word_of nodes ≡ Some m → (p i : ℕ) → Has m.insides p → Has m.free p → p + 1 ≡ length nodes → i ≤ length text
      → Marked fold nodes text i p → Marked fold nodes text (length text) (length nodes)
  certain m is p i inside free last l marked =
      let a = (inside_kind nodes m is p).0 inside in
      let b = (free_kind nodes m is p).0 free in
      let same : b.0 ≡ a.0 = cc (a.1, b.1) in
      let found = inside_end a.0 a.2 (subst (λ (n : Node). is_free n ≡ true) same b.2) in
      let at : slice_get nodes p ≡ Some (until_end found.0) = subst (λ (n : Node). slice_get nodes p ≡ Some n) found.1 a.1 in
      let next = next_end p found.0 ((fits nodes m is).line p (until_end found.0) at) in
      let k = length text - i in
      let place = later-sum fold nodes text k i in
      let end : later fold nodes text k i ≡ length text = omega (arith, place, l) in
      let whole = subst (λ (o : ℕ). Marked fold nodes text o p) end (stays p found.0 at k i (omega (arith, l)) marked) in
      marked_on fold nodes text (length text) p (length nodes) (until_end found.0) whole at (omega (arith, next, last))
