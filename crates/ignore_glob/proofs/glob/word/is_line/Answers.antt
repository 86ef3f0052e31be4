use Rattle.std.proofs.Common.{◌≡◌, true, false, arith}
use Rattle.ignore_glob.specs.NodeLists.{node_view, nodes_view}
use Rattle.ignore_glob.specs.Words.{leads_next}
use Rattle.ignore_glob.proofs.WordLemmas.{nodes_drop, line_more, line_ends}
use Rattle.ignore_glob.proofs.glob.word.is_line.Goals as goal

pub returns-then-not-leads_next : goal.returns-then-not-leads_next
returns-then-not-leads_next c =
    let nodes = c.args.nodes.now in
    let node = c.index-nodes-p.result in
    let stops : leads_next (node_view node) c.loop-p.p ≡ false = cc (c.leads_next.ensures, c.if-not-leads_next.true) in
    line_ends (nodes_view nodes) c.loop-p.p (node_view node) (nodes_drop nodes c.loop-p.p node c.loop-p-test.true c.index-nodes-p.is) stops
    c.loop-p.invariant

pub loop-p-preserved : goal.loop-p-preserved
loop-p-preserved c =
    let nodes = c.args.nodes.now in
    let node = c.index-nodes-p.result in
    let leads : leads_next (node_view node) c.loop-p.p ≡ true = cc (c.leads_next.ensures, c.if-not-leads_next.false) in
    line_more (nodes_view nodes) c.loop-p.p _ (node_view node)
    (nodes_drop nodes c.loop-p.p node c.loop-p-test.true c.index-nodes-p.is) leads
    (omega arith) c.loop-p.invariant
