-- A list that is cut at its first element that passes a test.
use Rattle.std.proofs.Common.{◌≡◌, ℕ, ◌+◌, List, [], ◌∷◌, length, take, drop, Bool, true, false, cond, nat_lt, Some, None, is_some}
use Rattle.std.proofs.Common.{unwrap_or, true≢false, refl, sym, ap, subst, arith}
use Rattle.std.proofs.lemmas.Grind.{common_steps}
use Rattle.std.proofs.lemmas.List.Splits.{slice_split_first, slice_split_none}
use Rattle.std.proofs.lemmas.List.Sums.{fails_before_first}
use Rattle.std.specs.List.{slice_split, position, position_or_len}

module _ (p : ℕ → Bool) (xs : List ℕ) where
  at_place : (i : ℕ) (b : Bool) → nat_lt (position_or_len p xs) (length xs) ≡ b → cond b (Some (position_or_len p xs)) None ≡ Some i
      → slice_split p xs ≡ take i xs ∷ slice_split p (drop (i + 1) xs)
  at_place i true e h =
      let at : position_or_len p xs ≡ i = ap (λ o. unwrap_or o 0) h in
      subst (λ n. slice_split p xs ≡ take n xs ∷ slice_split p (drop (n + 1) xs)) at
      (slice_split_first p xs 0 (grind (arith, common_steps)))
  at_place i false e h = absurd (true≢false (sym (ap is_some h)))

  -- the first segment ends at the first place
  pub cut_at : (i : ℕ) → position p xs ≡ Some i → slice_split p xs ≡ take i xs ∷ slice_split p (drop (i + 1) xs)
  cut_at i h = at_place i _ refl h

  no_place : (b : Bool) → nat_lt (position_or_len p xs) (length xs) ≡ b → cond b (Some (position_or_len p xs)) None ≡ None
      → slice_split p xs ≡ xs ∷ []
  no_place true e h = absurd (true≢false (ap is_some h))
  no_place false e h = slice_split_none p xs (λ k d l. fails_before_first p xs k d (grind (arith, common_steps)))

  -- where there is none, the list is the only segment
  pub cut_nowhere : position p xs ≡ None → slice_split p xs ≡ xs ∷ []
  cut_nowhere h = no_place _ refl h
