use Rattle.std.proofs.Common.{◌↔◌, ℕ}
use Rattle.ignore_glob.specs.NodeLists.{nodes_view}
use Rattle.ignore_glob.specs.Words.{Has, TestsAt}
use Rattle.ignore_glob.proofs.glob.word.tested.Given as goal

-- what is found is what matches of the positions that aren't left
abbrev pub invariant-loop-left : goal.invariant-loop-left
invariant-loop-left l = record {
  left : (p : ℕ) → Has l.left p → Has l.set p;
  found : (p : ℕ) → Has l.found p ↔ (TestsAt l.fold (nodes_view l.nodes) l.set l.c p × (Has l.left p → ⊥));
}

abbrev pub decreases-loop-left : goal.decreases-loop-left
decreases-loop-left l = l.left
