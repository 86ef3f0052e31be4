-- A set has one answer: the index of the last pattern that applies, or none.
use Rattle.std.proofs.Common.{◌≡◌, ◌⊎◌, ℕ, ◌+◌, ◌-◌, ◌<◌, ◌≤◌, Bool, List, length, drop, get_or, slice_get, All, Option, Some, None}
use Rattle.std.proofs.Common.{refl, sym, ap, subst, ◌∙◌, inl, inr, arith}
use Rattle.std.proofs.lemmas.List.{get_or-drop, length-drop}
use Rattle.std.proofs.lemmas.Option.{slice_get_within, get_or_from_slice_get}
use Rattle.ignore_set.specs.Sets.{Member, Applies, IsLastMatch}
use Rattle.ignore_set.proofs.IndexLemmas.{split}

-- where none applies, none at an index does
none_at : (text : List ℕ) (is_dir : Bool) (ms : List Member) (i : ℕ) (m : Member) → All (λ x. Applies text is_dir x → ⊥) ms
    → slice_get ms i ≡ Some m → Applies text is_dir m → ⊥
none_at text is_dir ms i m none here a =
    none i m (slice_get_within ms i m here) (subst (λ (x : Member). Applies text is_dir x) (sym (get_or_from_slice_get ms i m m here)) a)

-- where none applies after an index, none at a greater index does
none_after : (text : List ℕ) (is_dir : Bool) (ms : List Member) (i j : ℕ) (m : Member)
    → All (λ x. Applies text is_dir x → ⊥) (drop (i + 1) ms) → i + 1 ≤ j → slice_get ms j ≡ Some m → Applies text is_dir m → ⊥
none_after text is_dir ms i j m none less here a =
    let within : j < length ms = slice_get_within ms j m here in
    let back : i + 1 + (j - (i + 1)) ≡ j = omega (arith, less) in
    let same : get_or (drop (i + 1) ms) (j - (i + 1)) m ≡ m = get_or-drop (i + 1) ms (j - (i + 1)) m
    ∙ (ap (λ k. get_or ms k m) back ∙ get_or_from_slice_get ms j m m here) in
    none (j - (i + 1)) m (omega (arith, within, less, length-drop (i + 1) ms))
    (subst (λ (x : Member). Applies text is_dir x) (sym same) a)

-- two answers of a set to a text and a kind are one
IsLastMatch-one : (text : List ℕ) (is_dir : Bool) (ms : List Member) (r s : Option ℕ) → IsLastMatch text is_dir ms r
    → IsLastMatch text is_dir ms s → r ≡ s
IsLastMatch-one text is_dir ms None None h k = refl
IsLastMatch-one text is_dir ms None (Some j) h (n, there, b, rest) = absurd (none_at text is_dir ms j n h there b)
IsLastMatch-one text is_dir ms (Some i) None (m, here, a, later) k = absurd (none_at text is_dir ms i m k here a)
IsLastMatch-one text is_dir ms (Some i) (Some j) (m, here, a, later) (n, there, b, rest) = by_order (split i j)
  where
    by_order : (i < j) ⊎ (i ≡ j) ⊎ (j + 1 ≤ i) → Some i ≡ Some j
    by_order (inl less) = absurd (none_after text is_dir ms i j n later (omega (arith, less)) there b)
    by_order (inr (inl e)) = ap Some e
    by_order (inr (inr more)) = absurd (none_after text is_dir ms j i m rest more here a)
