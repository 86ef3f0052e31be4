use Rattle.std.proofs.Common.{◌≡◌, length}
use Rattle.ignore_glob.specs.Flags.{IsFlagged}
use Rattle.ignore_glob.specs.NodeLists.{nodes_view}
use Rattle.ignore_glob.proofs.Closing.{IsClosedBelow}
use Rattle.ignore_glob.proofs.glob.marks.close.Given as goal

abbrev pub invariant-loop-p : goal.invariant-loop-p
invariant-loop-p l = record {
  len : length l.flags.all.items ≡ length l.initial.flags.all.items;
  closed : IsClosedBelow (nodes_view l.nodes) (IsFlagged l.initial.flags.all.items) (IsFlagged l.flags.all.items) l.p;
}
