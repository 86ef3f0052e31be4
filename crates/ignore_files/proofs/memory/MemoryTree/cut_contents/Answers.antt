use Rattle.std.proofs.Common.{Some, ap, ◌∙◌, refl}
use Rattle.ignore_files.specs.Memory.{sought, is_file_node}
use Rattle.ignore_files.specs.declared.memory.node.Node.{Node}
use Rattle.ignore_files.proofs.GrownLemmas.{grown_written}
use Rattle.ignore_files.proofs.NodeLemmas.{leaves_written}
use Rattle.ignore_files.proofs.memory.MemoryTree.cut_contents.Goals as goal

pub returns : goal.returns
returns c =
    let found = c.in_ok-place.ensures ∙ ap (λ nodes. sought is_file_node nodes c.args.path.now) c.deref.ensures.value in
    rw (← c.self.view_is) (leaves_written is_file_node (λ
    (n : Node). record n { cut = Some (record { len = c.args.len; fault = c.args.fault }) })
    (record { cwd = c.self.inside.cwd; nodes = c.self.inside.nodes.items }) c.args.path.now c.in_ok-place.place
    c.index_mut.result.now found c.index_mut.ensures.value)

pub invariant_of-self : goal.invariant_of-self
invariant_of-self c =
    let found = c.in_ok-place.ensures ∙ ap (λ nodes. sought is_file_node nodes c.args.path.now) c.deref.ensures.value in
    grown_written is_file_node (λ (n : Node). record n { cut = Some (record { len = c.args.len; fault = c.args.fault }) }) c.self.inside.nodes.items
    c.args.path.now c.in_ok-place.place c.index_mut.result.now found c.index_mut.ensures.value c.self.invariant (λ n. refl)
