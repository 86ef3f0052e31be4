use Rattle.std.proofs.Common.{drop, map, string_bytes}
use Rattle.ignore_glob.specs.View.{branches_view}
use Rattle.ignore_glob.proofs.NeedleLemmas.{Spelt}
use Rattle.ignore_glob.proofs.glob.needle.by_branches.Given as goal

abbrev pub invariant-loop-branch : goal.invariant-loop-branch
invariant-loop-branch l = Spelt (branches_view l.branches) (branches_view (drop l.branch-index l.branches)) l.run
    (map string_bytes l.texts.items)
