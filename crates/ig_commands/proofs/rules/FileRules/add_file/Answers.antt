use Rattle.std.proofs.Common.{◌≡◌, ◌∙◌, List, Some, ℕ, subst, sym}
use Rattle.std.proofs.lemmas.Map.Text.{btree_map_updates_text}
use Rattle.std.specs.BTreeMap.{get_by_text}
use Rattle.std.specs.Map.{update}
use Rattle.std.specs.Str.{bytes_eq}
use Rattle.ig_commands.proofs.RuleLemmas.{added_file, copied_none}
use Rattle.ig_commands.proofs.rules.FileRules.add_file.Goals as goal

pub returns-in-Ok-clause-same : goal.returns-in-Ok-clause-same
returns-in-Ok-clause-same c = λ s line.
    let old = c.args.self.now.files in
    let new = c.insert.new.self in
    added_file old new c.args.source.now s line c.new.result
    (λ cs.
    subst (λ (t : List ℕ). get_by_text new cs ≡ update bytes_eq (get_by_text old) t (Some c.new.result) cs) c.in_ok-key.ensures.ok
    (btree_map_updates_text _ old new (Some c.new.result) c.in-Ok.ensures.updates cs))
    (sym c.get.ensures.value ∙ copied_none c.get.result c.is_some.result c.is_some.ensures c.if-is_some.false) c.new.ensures.empty
