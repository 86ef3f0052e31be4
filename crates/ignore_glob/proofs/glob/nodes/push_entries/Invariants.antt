use Rattle.std.proofs.Common.{◌≡◌, ◌++◌, length}
use Rattle.ignore_glob.specs.Nodes.{entries}
use Rattle.ignore_glob.specs.View.{branches_view}
use Rattle.ignore_glob.proofs.glob.nodes.push_entries.Given as goal

abbrev pub invariant-loop-branch : goal.invariant-loop-branch
invariant-loop-branch l =
    l.firsts.items ++ entries (branches_view l.rest) l.at l.end ≡ l.initial.firsts.items ++ entries (branches_view l.branches) l.first l.end

abbrev pub decreases-loop-branch : goal.decreases-loop-branch
decreases-loop-branch l = length l.rest
