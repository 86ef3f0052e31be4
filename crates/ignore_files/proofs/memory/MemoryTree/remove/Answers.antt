use Rattle.std.proofs.Common.{ap, ◌∙◌, arith}
use Rattle.std.proofs.lemmas.Option.{slice_get_within}
use Rattle.ignore_files.specs.Removed.{lister_of, unlisting}
use Rattle.ignore_files.proofs.RemovedLemmas.{grown_set, grown_unlisting, leaves_removed, lister_ok}
use Rattle.ignore_files.proofs.memory.MemoryTree.remove.Goals as goal

pub returns : goal.returns
returns c =
    let found = c.in_ok-parent.ensures ∙ ap (λ nodes. lister_of nodes c.args.path.now) c.deref.ensures.value in
    let gone = c.unlist.ensures ∙ ap (λ name. unlisting name c.index_mut.result.now) c.last_component.ensures in
    rw (← c.self.view_is) (leaves_removed (record { cwd = c.self.inside.cwd; nodes = c.self.inside.nodes.items }) c.args.path.now
    c.in_ok-parent.parent c.index_mut.result.now c.unlist.new.self found c.index_mut.ensures.value gone)

pub invariant_of-self : goal.invariant_of-self
invariant_of-self c =
    let found = c.in_ok-parent.ensures ∙ ap (λ nodes. lister_of nodes c.args.path.now) c.deref.ensures.value in
    let nodes = c.self.inside.nodes.items in
    let name = c.last_component.result.now in
    grown_set (unlisting name) nodes c.in_ok-parent.parent c.index_mut.result.now c.unlist.new.self
    (lister_ok nodes c.args.path.now c.in_ok-parent.parent found) c.index_mut.ensures.value c.unlist.ensures
    (grown_unlisting name nodes c.in_ok-parent.parent c.self.invariant)

pub index_mut-requires : goal.index_mut-requires
index_mut-requires c =
    let found = c.in_ok-parent.ensures ∙ ap (λ nodes. lister_of nodes c.args.path.now) c.deref.ensures.value in
    let nodes = c.self.inside.nodes.items in
    let there = lister_ok nodes c.args.path.now c.in_ok-parent.parent found in
    omega (arith, slice_get_within nodes c.in_ok-parent.parent there.0 there.1, c.self.inside.nodes.ok.0)
