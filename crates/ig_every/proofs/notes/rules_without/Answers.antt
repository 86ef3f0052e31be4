use Rattle.std.proofs.Common.{◌∙◌, ◌+◌, List, ap, drop, subst, take}
use Rattle.ignore_rules.specs.Rules.{Building, Rule}
use Rattle.ig_every.specs.Notes.{AddsTexts}
use Rattle.ig_every.specs.Reading.{begun_by}
use Rattle.ig_every.proofs.NoteLemmas.{texts_then}
use Rattle.ig_every.proofs.notes.rules_without.Goals as goal

pub returns : goal.returns
returns c =
    let rules = c.args.judged.rules.now.rules in
    let index = c.args.index in
    let begun = begun_by c.args.judged.how in
    let mid = c.push_rules.new.builder in
    let new = c.push_rules-2.new.builder in
    let first = subst (λ (rs : List Rule). AddsTexts rs begun mid) (c.rules_before.ensures ∙ ap (take index) c.rules-rules.ensures)
    (subst (λ (b : Building). AddsTexts c.rules_before.result.now b mid) c.in_ok-builder.ensures.value c.in_ok-push_rules.ensures) in
    let rest = subst (λ (rs : List Rule). AddsTexts rs mid new) (c.rules_after.ensures ∙ ap (drop (index + 1)) c.rules-rules.ensures) c.in_ok-push_rules-2.ensures in
    (new, texts_then (take index rules) (drop (index + 1) rules) begun mid new first rest, c.into_gitignore.ensures)
