use Rattle.std.proofs.Common.{ap, ◌∙◌}
use Rattle.ignore_files.specs.Memory.{sought, is_file_node}
use Rattle.ignore_files.specs.Removed.{holding}
use Rattle.ignore_files.proofs.NodeLemmas.{leaves_room}
use Rattle.ignore_files.proofs.Places.{sought_ok}
use Rattle.ignore_files.proofs.RemovedLemmas.{grown_holding, grown_set}
use Rattle.ignore_files.proofs.memory.MemoryTree.rewrite_file.Goals as goal

pub returns : goal.returns
returns c =
    let found = c.in_ok-place.ensures ∙ ap (λ nodes. sought is_file_node nodes c.args.path.now) c.deref.ensures.value in
    let held = c.hold.ensures ∙ ap (λ bytes. holding bytes c.index_mut.result.now) c.in_ok-copy.ensures.items in
    rw (← c.self.view_is) (leaves_room is_file_node (holding c.args.bytes.now)
    (record { cwd = c.self.inside.cwd; nodes = c.self.inside.nodes.items }) c.args.path.now c.in_ok-place.place
    c.index_mut.result.now found c.index_mut.ensures.value c.hold.new.self held)

pub invariant_of-self : goal.invariant_of-self
invariant_of-self c =
    let found = c.in_ok-place.ensures ∙ ap (λ nodes. sought is_file_node nodes c.args.path.now) c.deref.ensures.value in
    let nodes = c.self.inside.nodes.items in
    grown_set (holding c.in_ok-copy.copy.items) nodes c.in_ok-place.place c.index_mut.result.now c.hold.new.self
    (sought_ok is_file_node nodes c.args.path.now c.in_ok-place.place found) c.index_mut.ensures.value c.hold.ensures
    (grown_holding c.in_ok-copy.copy.items nodes c.in_ok-place.place c.self.invariant)
