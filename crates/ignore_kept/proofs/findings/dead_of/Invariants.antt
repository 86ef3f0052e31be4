use Rattle.ignore_kept.specs.Findings.{AreDeadBelow}
use Rattle.ignore_kept.proofs.findings.dead_of.Given as goal

-- the dead rules before are found
abbrev pub invariant-loop-index : goal.invariant-loop-index
invariant-loop-index l = AreDeadBelow l.findings l.index l.dead.items
