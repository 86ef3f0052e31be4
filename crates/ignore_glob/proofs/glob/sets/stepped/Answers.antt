use Rattle.std.proofs.Common.{arith}
use Rattle.std.proofs.lemmas.List.{length-map}
use Rattle.ignore_glob.specs.NodeLists.{node_view, nodes_view}
use Rattle.ignore_glob.proofs.SetSteps.{stepped_marks}
use Rattle.ignore_glob.proofs.glob.sets.stepped.Goals as goal

pub returns : goal.returns
returns c = λ text marks.
    let nodes = nodes_view c.args.nodes.now in
    let long = length-map c.args.nodes.now node_view in
    stepped_marks c.args.fold nodes text c.args.c c.args.set.now.all.items _ marks (omega (arith, long, c.advance.ensures.len)) c.advance.ensures.flagged

pub returns-then-len-nodes : goal.returns-then-len-nodes
returns-then-len-nodes c = λ text marks.
    let long = length-map c.args.nodes.now node_view in
    absurd (omega (arith, long, marks.len))
