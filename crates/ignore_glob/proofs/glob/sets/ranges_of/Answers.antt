use Rattle.std.proofs.Common.{suc, ◌++◌, drop, length, arith, add-one, append_assoc, ap, sym, ◌∙◌, ◌≤◌}
use Rattle.std.proofs.lemmas.List.{append-nil, drop_all, length-map}
use Rattle.ignore_glob.specs.NodeLists.{node_view, nodes_view}
use Rattle.ignore_glob.specs.PositionSets.{node_ranges, nodes_ranges}
use Rattle.ignore_glob.proofs.WordLemmas.{nodes_drop}
use Rattle.ignore_glob.proofs.glob.sets.ranges_of.Goals as goal

pub loop-node-preserved : goal.loop-node-preserved
loop-node-preserved c =
    let nodes = c.args.nodes.now in
    let i = c.loop-node.node-index in
    let item = c.node-item.result in
    let rest = nodes_ranges (drop (suc i) (nodes_view nodes)) in
    let old = c.loop-node.ranges.items in
    let place = nodes_drop nodes i item c.loop-node-test.true c.node-item.is in
    let grown = c.in_ok-push_ranges.ensures in
    rw add-one (c.loop-node.invariant ∙ (ap (λ ns. old ++ nodes_ranges ns) place
    ∙ (sym (append_assoc old (node_ranges (node_view item)) rest) ∙ ap (λ l. l ++ rest) (sym grown))))

pub returns : goal.returns
returns c =
    let nodes = nodes_view c.args.nodes.now in
    let long = length-map c.args.nodes.now node_view in
    let past : length nodes ≤ c.loop-node.node-index = omega (arith, long, c.loop-node-test.false) in
    sym (c.loop-node.invariant ∙ (ap (λ ns. c.loop-node.ranges.items ++ nodes_ranges ns) (drop_all c.loop-node.node-index nodes past)
    ∙ append-nil c.loop-node.ranges.items))
