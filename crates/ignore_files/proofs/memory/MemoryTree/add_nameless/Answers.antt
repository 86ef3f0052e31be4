use Rattle.std.proofs.Common.{ap, ◌∙◌}
use Rattle.ignore_files.specs.Memory.{sought, is_directory}
use Rattle.ignore_files.specs.Changes.{listing_too}
use Rattle.ignore_files.specs.declared.memory.entry.Entry.TheVariants.{Nameless}
use Rattle.ignore_files.proofs.GrownLemmas.{grown_listing, grown_unchanged}
use Rattle.ignore_files.proofs.NodeLemmas.{leaves_room}
use Rattle.ignore_files.proofs.memory.MemoryTree.add_nameless.Goals as goal

pub returns : goal.returns
returns c =
    let found = c.in_ok-place.ensures ∙ ap (λ nodes. sought is_directory nodes c.args.dir.now) c.deref.ensures.value in
    rw (← c.self.view_is) (leaves_room is_directory (listing_too Nameless)
    (record { cwd = c.self.inside.cwd; nodes = c.self.inside.nodes.items }) c.args.dir.now c.in_ok-place.place
    c.index_mut.result.now found c.index_mut.ensures.value c.list_nameless.new.self c.in_ok-list_nameless.ensures.added)

pub invariant_of-self : goal.invariant_of-self
invariant_of-self c =
    let found = c.in_ok-place.ensures ∙ ap (λ nodes. sought is_directory nodes c.args.dir.now) c.deref.ensures.value in
    grown_unchanged is_directory c.self.inside.nodes.items c.args.dir.now c.in_ok-place.place c.index_mut.result.now
    c.list_nameless.new.self found c.index_mut.ensures.value c.in_err-list_nameless.ensures.unchanged c.self.invariant

pub invariant_of-self-2 : goal.invariant_of-self-2
invariant_of-self-2 c =
    let found = c.in_ok-place.ensures ∙ ap (λ nodes. sought is_directory nodes c.args.dir.now) c.deref.ensures.value in
    grown_listing is_directory c.self.inside.nodes.items c.args.dir.now c.in_ok-place.place c.index_mut.result.now
    c.list_nameless.new.self found c.index_mut.ensures.value c.in_ok-list_nameless.ensures.added c.self.invariant
