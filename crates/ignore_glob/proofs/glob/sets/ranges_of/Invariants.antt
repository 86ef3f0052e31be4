use Rattle.std.proofs.Common.{◌≡◌, ◌++◌, drop}
use Rattle.ignore_glob.specs.NodeLists.{nodes_view}
use Rattle.ignore_glob.specs.PositionSets.{nodes_ranges}
use Rattle.ignore_glob.proofs.glob.sets.ranges_of.Given as goal

-- the ranges so far, and those of the nodes that are left, are all
abbrev pub invariant-loop-node : goal.invariant-loop-node
invariant-loop-node l = nodes_ranges (nodes_view l.nodes) ≡ l.ranges.items ++ nodes_ranges (drop l.node-index (nodes_view l.nodes))
