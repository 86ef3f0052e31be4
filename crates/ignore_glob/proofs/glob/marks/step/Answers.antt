use Rattle.std.proofs.Common.{arith}
use Rattle.std.proofs.lemmas.List.{length-map}
use Rattle.ignore_glob.specs.Flags.{IsFlagged}
use Rattle.ignore_glob.specs.NodeLists.{node_view, nodes_view}
use Rattle.ignore_glob.proofs.Closing.{stepped_more, stepped_all}
use Rattle.ignore_glob.proofs.glob.marks.step.Goals as goal

pub loop-p-preserved : goal.loop-p-preserved
loop-p-preserved c =
    record {
      len = omega (arith, c.step_at.ensures.len, c.loop-p.invariant.len);
      flagged =
          stepped_more c.args.fold (nodes_view c.args.nodes.now) (IsFlagged c.args.from.now.all.items)
          (IsFlagged c.loop-p.flags.all.items) _ c.args.c c.loop-p.p c.loop-p.invariant.flagged c.step_at.ensures.flagged;
    }

pub returns-clause-flagged : goal.returns-clause-flagged
returns-clause-flagged c =
    let from = c.args.from.now in
    let long = length-map c.args.nodes.now node_view in
    stepped_all c.args.fold (nodes_view c.args.nodes.now) (IsFlagged from.all.items) _ c.args.c c.loop-p.p c.loop-p.invariant.flagged
    (λ q f h. let n = (from.within q f).1 in omega (arith, h, long, n, c.loop-p-test.false, c.min-p-end.ensures))
