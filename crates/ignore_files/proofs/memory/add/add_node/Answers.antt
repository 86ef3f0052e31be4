use Rattle.std.proofs.Common.{◌∷◌, [], ◌++◌, get_or, set, ap, ◌∙◌, arith}
use Rattle.std.proofs.lemmas.Option.{slice_get_within}
use Rattle.ignore_files.specs.Memory.{entry_under}
use Rattle.ignore_files.specs.Changes.{listing_too}
use Rattle.ignore_files.specs.declared.memory.node.Node.{Node}
use Rattle.ignore_files.specs.declared.memory.entry.Entry.TheVariants.{Named}
use Rattle.ignore_files.proofs.Places.{parent_ok}
use Rattle.ignore_files.proofs.NodeLemmas.{read_before, write_before, with_node_is}
use Rattle.ignore_files.proofs.memory.add.add_node.Goals as goal

pub index_mut-requires : goal.index_mut-requires
index_mut-requires c =
    let nodes = c.args.nodes.now.items in
    let there = parent_ok nodes c.args.path.now c.args.parent c.requires in
    omega (arith, slice_get_within nodes c.args.parent there.0 there.1, c.in_ok-push.ensures.len, c.args.nodes.now.ok.0)

pub list_named-requires : goal.list_named-requires
list_named-requires c =
    let nodes = c.args.nodes.now.items in
    let there = parent_ok nodes c.args.path.now c.args.parent c.requires in
    let read = c.index_mut.result.now in
    let at = c.index_mut.ensures.value ∙ ap (λ ns. get_or ns c.args.parent read) c.in_ok-push.ensures.items in
    let same = read_before nodes c.new.result c.args.parent there.0 read there.1 at in
    let name = c.new-name.ensures ∙ c.in_ok-from_str.ensures.ok ∙ c.last_component.ensures in
    ap (λ (n : Node). entry_under c.new-name.result n.kind) same ∙ ap (λ n. entry_under n there.0.kind) name ∙ there.2

pub returns-in-Ok-clause-added : goal.returns-in-Ok-clause-added
returns-in-Ok-clause-added c =
    let nodes = c.args.nodes.now.items in
    let parent = c.args.parent in
    let there = parent_ok nodes c.args.path.now parent c.requires in
    let read = c.index_mut.result.now in
    let at = c.index_mut.ensures.value ∙ ap (λ ns. get_or ns parent read) c.in_ok-push.ensures.items in
    let entry = Named c.new-name.result c.file_type-file_type.result c.len-place.result in
    let name = c.new-name.ensures ∙ c.in_ok-from_str.ensures.ok ∙ c.last_component.ensures in
    let copy = c.new-path.ensures ∙ c.in_ok-from_str-2.ensures.ok in
    ap (λ ns. set ns parent c.list_named.new.self) c.in_ok-push.ensures.items
    ∙ ap (set (nodes ++ c.new.result ∷ []) parent) c.in-Ok.ensures.added
    ∙ write_before (listing_too entry) nodes c.new.result parent there.0 read there.1 at
    ∙ with_node_is nodes c.args.path.now c.args.kind c.args.len parent c.new-name.result c.file_type-file_type.result
    c.len-place.result c.new-path.result c.new.result name c.file_type-file_type.ensures
    (c.len-place.ensures ∙ c.args.nodes.now.ok.0) copy c.new.ensures
