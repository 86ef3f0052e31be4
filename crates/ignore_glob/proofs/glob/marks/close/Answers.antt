use Rattle.std.proofs.Common.{◌≤◌, arith, length}
use Rattle.std.proofs.lemmas.List.{length-map}
use Rattle.ignore_glob.specs.Flags.{IsFlagged}
use Rattle.ignore_glob.specs.NodeLists.{node_view, nodes_view}
use Rattle.ignore_glob.proofs.Closing.{closed_init, closed_more, closed_all}
use Rattle.ignore_glob.proofs.glob.marks.close.Goals as goal

pub loop-p-init : goal.loop-p-init
loop-p-init c =
    let flags = c.args.flags.now in
    record { len = omega arith; closed = closed_init _ (IsFlagged flags.all.items) flags.low (λ q f. (flags.within q f).0) }

pub returns-then-p-flags-clause-flagged : goal.returns-then-p-flags-clause-flagged
returns-then-p-flags-clause-flagged c =
    let past : c.loop-p.flags.high ≤ c.loop-p.p = omega (arith, c.if-p-flags.true) in
    closed_all _ _ _ c.loop-p.p c.loop-p.invariant.closed (λ q f h. let n = (c.loop-p.flags.within q f).1 in omega (arith, n, past))

pub loop-p-preserved : goal.loop-p-preserved
loop-p-preserved c =
    record {
      len = omega (arith, c.close_at.ensures.len, c.loop-p.invariant.len);
      closed =
          closed_more (nodes_view c.args.nodes.now) _
          (IsFlagged c.loop-p.flags.all.items) _ c.loop-p.p c.requires.on c.close_at.ensures.flagged c.loop-p.invariant.closed;
    }

pub returns-clause-flagged : goal.returns-clause-flagged
returns-clause-flagged c =
    let past : length c.args.nodes.now ≤ c.loop-p.p = omega (arith, c.loop-p-test.false) in
    let long = length-map c.args.nodes.now node_view in
    closed_all _ _ _ c.loop-p.p c.loop-p.invariant.closed (λ q f h. omega (arith, h, long, past))
