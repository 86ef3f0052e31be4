use Rattle.std.proofs.Common.{◌≡◌, ◌↔◌, ℕ, length}
use Rattle.ignore_glob.specs.Flags.{IsFlagged}
use Rattle.ignore_glob.specs.NodeLists.{nodes_view}
use Rattle.ignore_glob.proofs.Closing.{SteppedBelow}
use Rattle.ignore_glob.proofs.glob.marks.step.Given as goal

abbrev pub invariant-loop-p : goal.invariant-loop-p
invariant-loop-p l = record {
  len : length l.flags.all.items ≡ length l.initial.flags.all.items;
  flagged : (q : ℕ) → IsFlagged l.flags.all.items q ↔ SteppedBelow l.fold (nodes_view l.nodes) (IsFlagged l.from.all.items) l.c l.p q;
}
