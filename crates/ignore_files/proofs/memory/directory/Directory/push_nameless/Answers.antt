use Rattle.std.proofs.Common.{sym, ap, ◌∙◌}
use Rattle.ignore_files.specs.Entries.{node_named}
use Rattle.ignore_files.proofs.EntryLemmas.{named_nameless}
use Rattle.ignore_files.proofs.memory.directory.Directory.push_nameless.Goals as goal

pub invariant_of-self-2 : goal.invariant_of-self-2
invariant_of-self-2 c = λ name.
    c.self.invariant name ∙ sym (named_nameless name c.self.inside.entries.items) ∙ ap (node_named name) (sym c.in_ok-push.ensures.items)
