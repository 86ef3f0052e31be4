use Rattle.std.proofs.Common.{◌≡◌, ◌≤◌, ℕ, slice_get, Some, arith, below_more, subst}
use Rattle.std.proofs.lemmas.List.{length-map}
use Rattle.std.proofs.lemmas.Option.{slice_get_within}
use Rattle.ignore_glob.specs.Nodes.{Node}
use Rattle.ignore_glob.specs.NodeLists.{node_view, nodes_view}
use Rattle.ignore_glob.specs.PositionSets.{StepAlike}
use Rattle.std.proofs.lemmas.Bool.Decides.{Decides-eqb}
use Rattle.ignore_glob.proofs.SetSteps.{alike_itself}
use Rattle.ignore_glob.proofs.WordLemmas.{node_at}
use Rattle.ignore_glob.proofs.glob.sets.step_evenly.Goals as goal

pub loop-node-preserved : goal.loop-node-preserved
loop-node-preserved c =
    let P : Node → Type 0 = λ node. (d : ℕ) → c.args.from ≤ d → d ≤ c.args.to → StepAlike c.args.fold node c.args.from d in
    let nodes = c.args.nodes.now in
    let item = c.node-item.result in
    let i = c.loop-node.node-index in
    let here : (node : Node) → slice_get (nodes_view nodes) i ≡ Some node → P node = λ node at.
    (let found = node_at nodes i item c.loop-node-test.true c.node-item.is in
    let same : node_view item ≡ node = cc (at, found) in
    subst P same (c.node_steps_evenly.ensures c.if-not-node_steps_evenly.false)) in
    below_more _ _ c.loop-node.invariant here

pub returns : goal.returns
returns c = λ t d low high p node at.
    let within = slice_get_within (nodes_view c.args.nodes.now) p node at in
    let long = length-map c.args.nodes.now node_view in
    c.loop-node.invariant p (omega (arith, within, long, c.loop-node-test.false)) node at d low high

pub returns-then-is_ascii : goal.returns-then-is_ascii
returns-then-is_ascii c = λ t d low high.
    let same : c.args.from ≡ c.args.to = (Decides-eqb c.args.from c.args.to).0 t in
    alike_itself c.args.fold (nodes_view c.args.nodes.now) c.args.from d (omega arith)
