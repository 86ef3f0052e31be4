use Rattle.std.proofs.Common.{◌≡◌, ℕ, Option, Some, length, slice_get}
use Rattle.ig_every.specs.Judged.{IsJudged}
use Rattle.ig_every.specs.declared.diagnostic.Diagnostic.{Diagnostic}
use Rattle.ig_every.proofs.dead.judged_of.Given as goal

-- what is wrong with the rules before is so
abbrev pub invariant-loop-index : goal.invariant-loop-index
invariant-loop-index l = record {
  each : length l.all.items ≡ l.index;
  right : (i : ℕ) (one : Option Diagnostic) → slice_get l.all.items i ≡ Some one → IsJudged l.rules i one;
}
