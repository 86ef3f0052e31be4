use Rattle.std.proofs.Common.{◌∙◌, rules, tests}
use Rattle.std.proofs.lemmas.Iterator.{YieldsList-from_slice}
use Rattle.std.proofs.lemmas.Iterator.Consumers.{count_from_yields_List, YieldsList-from_filter, YieldsList-at}
use Rattle.std.proofs.lemmas.List.Sums.{length-filter}
use Rattle.ignore_files.specs.Memory.{is_directory}
use Rattle.ignore_files.specs.declared.memory.node.Node.{Node}
use Rattle.ignore_files.proofs.memory.canonical_path.count_dirs.Goals as goal

pub returns : goal.returns
returns c =
    let nodes = c.args.nodes.now in
    count_from_yields_List c.filter.result c.count.result c.count.ensures.ran
    (YieldsList-from_filter _ (λ (n : Node). is_directory n.kind)
    (YieldsList-at c.filter.ensures.source (YieldsList-from_slice nodes c.iter.ensures.rest)) c.filter.ensures.closure
    (λ x r q k. search (rules, tests)))
    ∙ length-filter (λ (n : Node). is_directory n.kind) nodes
