use Rattle.std.proofs.Common.{◌≡◌, ◌<◌, ℕ, slice_get, Some}
use Rattle.ignore_glob.specs.Nodes.{Node}
use Rattle.ignore_glob.specs.NodeLists.{nodes_view}
use Rattle.ignore_glob.specs.PositionSets.{StepAlike}
use Rattle.ignore_glob.proofs.glob.sets.step_alike.Given as goal

-- the nodes before step so
abbrev pub invariant-loop-node : goal.invariant-loop-node
invariant-loop-node l =
    (p : ℕ) → p < l.node-index → (node : Node) → slice_get (nodes_view l.nodes) p ≡ Some node → StepAlike l.fold node l.c l.d
