use Rattle.std.proofs.Common.{◌≡◌, ℕ, ◌<◌, Some, slice_get}
use Rattle.ignore_every.proofs.row.is_in.Given as goal

-- the index isn't among those before
abbrev pub invariant-loop-index : goal.invariant-loop-index
invariant-loop-index l = (j : ℕ) → j < l.index-index → slice_get l.indices j ≡ Some l.wanted → ⊥
