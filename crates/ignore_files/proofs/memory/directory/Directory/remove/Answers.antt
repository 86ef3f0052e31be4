use Rattle.std.proofs.Common.{rules, not, None, bytes_eq, cond, sym, ap, ◌∙◌}
use Rattle.std.proofs.lemmas.Fn.{filter_same}
use Rattle.std.proofs.lemmas.Map.Text.{btree_map_updates_text}
use Rattle.ignore_files.specs.Entries.{node_named}
use Rattle.ignore_files.specs.Removed.{is_under}
use Rattle.ignore_files.proofs.RemovedLemmas.{named_without}
use Rattle.ignore_files.proofs.memory.directory.Directory.remove.Goals as goal

pub returns : goal.returns
returns c =
    rw (← c.self.view_is)
    (filter_same _ (λ e. not (is_under c.args.name.now e)) _ (λ x b f k. search rules) _ _ c.retain.ensures.filtered)

pub invariant_of-self : goal.invariant_of-self
invariant_of-self c = λ q.
    let name = c.args.name.now in
    let fields = c.self.inside in
    let kept = filter_same _ (λ e. not (is_under name e)) _ (λ x b f k. search rules) _ _ c.retain.ensures.filtered in
    btree_map_updates_text name fields.by_name c.remove.new.self None c.remove.ensures.updates q
    ∙ ap (cond (bytes_eq name q) None) (c.self.invariant q)
    ∙ sym (named_without q name fields.entries.items)
    ∙ ap (node_named q) (sym kept)
