use Rattle.std.proofs.Common.{◌≡◌, ◌≤◌, drop, length}
use Rattle.ignore_glob.specs.NodeLists.{nodes_view}
use Rattle.ignore_glob.specs.Words.{masks}
use Rattle.ignore_glob.proofs.glob.word.masks_of.Given as goal

-- the masks of the nodes from here on
abbrev pub invariant-loop-p : goal.invariant-loop-p
invariant-loop-p l = record {
  within : l.p ≤ length l.nodes;
  rest : l.masks ≡ masks (drop l.p (nodes_view l.nodes));
}

abbrev pub decreases-loop-p : goal.decreases-loop-p
decreases-loop-p l = l.p
