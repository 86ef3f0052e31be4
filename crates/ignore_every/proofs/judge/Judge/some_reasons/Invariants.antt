use Rattle.std.proofs.Common.{ℕ}
use Rattle.ignore_every.specs.Findings.{IsReason}
use Rattle.ignore_every.specs.Machines.{IsIn}
use Rattle.ignore_every.proofs.judge.Judge.some_reasons.Given as goal

-- each that is named is a reason
abbrev pub invariant-loop-number : goal.invariant-loop-number
invariant-loop-number l = (other : ℕ) → IsIn l.named.items other → IsReason l.self.rules.now.rules l.index other
