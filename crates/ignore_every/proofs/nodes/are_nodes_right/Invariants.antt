use Rattle.ignore_every.specs.Trees.{AreRightBelow}
use Rattle.ignore_every.proofs.nodes.are_nodes_right.Given as goal

-- the tables before are right
abbrev pub invariant-loop-number : goal.invariant-loop-number
invariant-loop-number l = AreRightBelow l.rules l.letters l.nodes l.number
