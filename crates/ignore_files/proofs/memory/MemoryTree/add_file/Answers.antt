use Rattle.std.proofs.Common.{ap, ◌∙◌}
use Rattle.ignore_files.specs.Memory.{parent_for}
use Rattle.ignore_files.specs.declared.memory.node.Kind.TheVariants.{File}
use Rattle.ignore_files.proofs.GrownLemmas.{grown_after, grown_with}
use Rattle.ignore_files.proofs.memory.MemoryTree.add_file.Goals as goal

pub invariant_of-self : goal.invariant_of-self
invariant_of-self c =
    let parent = c.in_ok-parent.ensures ∙ ap (λ nodes. parent_for nodes c.args.path.now) c.deref.ensures.value in
    grown_after c.add_node.result c.self.inside.nodes.items _ _ c.add_node.ensures.added c.add_node.ensures.unchanged c.self.invariant
    (grown_with c.self.inside.nodes.items c.args.path.now (File c.new.result) _ c.in_ok-parent.parent parent
    (λ es e. absurd (cc (e))) c.self.invariant)
