use Rattle.std.proofs.Common.{◌≡◌, drop}
use Rattle.ignore_glob.specs.NodeLists.{nodes_view}
use Rattle.ignore_glob.specs.Words.{is_line}
use Rattle.ignore_glob.proofs.glob.word.is_line.Given as goal

-- the nodes before lead so
abbrev pub invariant-loop-p : goal.invariant-loop-p
invariant-loop-p l = is_line (nodes_view l.nodes) 0 ≡ is_line (drop l.p (nodes_view l.nodes)) l.p
