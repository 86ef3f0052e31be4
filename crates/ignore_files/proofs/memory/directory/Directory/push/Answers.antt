use Rattle.std.proofs.Common.{Some, cond, sym, ap, ◌∙◌, bytes_eq, string_bytes}
use Rattle.std.specs.BTreeMap.{get_by_text}
use Rattle.std.proofs.lemmas.Map.Text.{btree_map_updates_text}
use Rattle.ignore_files.specs.Entries.{node_named}
use Rattle.ignore_files.proofs.EntryLemmas.{named_more}
use Rattle.ignore_files.proofs.memory.directory.Directory.push.Goals as goal

pub invariant_of-self-in-Ok : goal.invariant_of-self-in-Ok
invariant_of-self-in-Ok c = λ name.
    let fields = c.self.inside in
    let key = c.in_ok-key.ensures.ok ∙ c.as_str.ensures in
    btree_map_updates_text (string_bytes c.in_ok-key.key) fields.by_name c.insert.new.self (Some c.args.node) c.in-Ok.ensures.updates name
    ∙ ap (λ bs. cond (bytes_eq bs name) (Some c.args.node) (get_by_text fields.by_name name)) key
    ∙ ap (cond (bytes_eq c.args.name name) (Some c.args.node)) (c.self.invariant name)
    ∙ sym (named_more name c.args.name c.args.file_type c.args.node fields.entries.items
    (ap (node_named c.args.name) c.self.view_is ∙ c.requires))
    ∙ ap (node_named name) (sym c.in_ok-push.ensures.items)
