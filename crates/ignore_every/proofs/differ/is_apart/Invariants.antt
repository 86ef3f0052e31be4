use Rattle.std.proofs.Common.{◌≡◌, ℕ, ◌<◌, Some, slice_get}
use Rattle.ignore_every.specs.Differences.{IsSamePair}
use Rattle.ignore_every.specs.declared.said.Difference.{Difference}
use Rattle.ignore_every.proofs.differ.is_apart.Given as goal

-- it is by another pair than each before
abbrev pub invariant-loop-other : goal.invariant-loop-other
invariant-loop-other l =
    (i : ℕ) → i < l.other-index → (e : Difference) → slice_get l.found i ≡ Some e → IsSamePair e l.difference → ⊥
