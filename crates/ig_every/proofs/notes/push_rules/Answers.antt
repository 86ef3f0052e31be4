use Rattle.std.proofs.Common.{refl, subst}
use Rattle.std.proofs.lemmas.List.{take_all}
use Rattle.ig_every.specs.Notes.{AddsTexts}
use Rattle.ig_every.proofs.NoteLemmas.{text_at}
use Rattle.ig_every.proofs.notes.push_rules.Goals as goal

pub loop-rule-init : goal.loop-rule-init
loop-rule-init c = refl

pub loop-rule-preserved : goal.loop-rule-preserved
loop-rule-preserved c =
    text_at c.args.rules.now c.loop-rule.rule-index c.rule-item.result c.original.result.now c.args.builder.now c.loop-rule.builder c.push_line.new.self
    c.loop-rule-test.true c.rule-item.is c.original.ensures c.loop-rule.invariant c.in_ok-push_line.ensures.added

pub returns : goal.returns
returns c =
    subst (λ rs. AddsTexts rs c.args.builder.now c.loop-rule.builder) (take_all c.loop-rule.rule-index c.args.rules.now c.loop-rule-test.false)
    c.loop-rule.invariant
