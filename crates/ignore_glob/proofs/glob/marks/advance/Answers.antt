use Rattle.std.proofs.Common.{◌≡◌, ◌+◌, length, arith}
use Rattle.std.proofs.lemmas.List.{length-map}
use Rattle.ignore_glob.specs.Flags.{IsFlagged}
use Rattle.ignore_glob.specs.Nodes.{SteppedTo}
use Rattle.ignore_glob.specs.NodeLists.{node_view, nodes_view}
use Rattle.ignore_glob.proofs.MarkSteps.{flags_of}
use Rattle.ignore_glob.proofs.glob.marks.advance.Goals as goal

pub returns-clause-flagged : goal.returns-clause-flagged
returns-clause-flagged c =
    let nodes = nodes_view c.args.nodes.now in
    let long = length-map c.args.nodes.now node_view in
    let len : length c.close.new.flags.all.items ≡ length nodes + 1 = omega
    (arith, long, c.close.ensures.len, c.step.ensures.len, c.clear.ensures.len, c.requires.len) in
    (flags_of nodes (IsFlagged c.step.new.flags.all.items)
    (SteppedTo c.args.fold nodes
    (IsFlagged c.args.from.now.all.items) c.args.c) c.close.new.flags.all.items len c.step.ensures.flagged c.close.ensures.flagged).flagged
