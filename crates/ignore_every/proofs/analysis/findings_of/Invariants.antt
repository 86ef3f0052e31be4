use Rattle.std.proofs.Common.{◌≡◌, ℕ, Some, length, slice_get}
use Rattle.ignore_every.specs.Findings.{IsRightFinding}
use Rattle.ignore_every.specs.declared.findings.Finding.{Finding}
use Rattle.ignore_every.proofs.analysis.findings_of.Given as goal

-- what is found of the rules before is so
abbrev pub invariant-loop-index : goal.invariant-loop-index
invariant-loop-index l = record {
  each : length l.findings.items ≡ l.index;
  right : (i : ℕ) (finding : Finding) → slice_get l.findings.items i ≡ Some finding → IsRightFinding l.reached.rules.now.rules i finding;
}
