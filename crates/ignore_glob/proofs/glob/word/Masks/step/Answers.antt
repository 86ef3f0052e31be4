use Rattle.std.proofs.Common.{arith}
use Rattle.std.proofs.lemmas.List.{length-map}
use Rattle.ignore_glob.specs.NodeLists.{node_view, nodes_view}
use Rattle.ignore_glob.proofs.WordSteps.{tested_within, slash_step, other_step}
use Rattle.ignore_glob.proofs.glob.word.Masks.step.Goals as goal

pub tested-on-requires : goal.tested-on-requires
tested-on-requires c = λ p h.
    let l = tested_within (nodes_view c.args.nodes.now) c.args.self c.requires.word c.args.set p h in
    let e = length-map c.args.nodes.now node_view in
    omega (arith, l, e)

pub returns-then-c-eq47 : goal.returns-then-c-eq47
returns-then-c-eq47 c =
    slash_step (nodes_view c.args.nodes.now) c.args.self c.requires.word c.args.fold c.args.set c.tested-on.result c.args.c
    c.tested-on.ensures
    c.if-c-eq47.true

pub returns-else-c-eq47 : goal.returns-else-c-eq47
returns-else-c-eq47 c =
    other_step (nodes_view c.args.nodes.now) c.args.self c.requires.word c.args.fold c.args.set c.tested-on.result c.args.c
    c.tested-on.ensures
    (λ e. absurd (omega (arith, e, c.if-c-eq47.false)))
