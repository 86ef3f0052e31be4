-- The dead rules are found one after the other.
use Rattle.std.proofs.Common.{◌≡◌, ◌≤◌, ℕ, List, length, subst, arith}
use Rattle.ignore_kept.proofs.DeadRules.{none_below, one_more}
use Rattle.ignore_kept.specs.Findings.{AreDeadBelow}
use Rattle.ignore_kept.proofs.findings.dead_of.Goals as goal

pub loop-index-init : goal.loop-index-init
loop-index-init c = none_below _ _ c.new-dead.ensures.items

pub loop-index-preserved : goal.loop-index-preserved
loop-index-preserved c = one_more _ _ _ _ c.in_ok-push_dead.ensures c.loop-index.invariant
