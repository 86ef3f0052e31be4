use Rattle.std.proofs.Common.{◌≡◌, ap, ◌∙◌, subst, true, false, rules, IfOk}
use Rattle.ignore_base.specs.Match.{is_none, match_map}
use Rattle.ignore_base.specs.declared.match_result.Match.{Match}
use Rattle.ignore_rules.specs.Overrides.{override_answer}
use Rattle.ignore_dir.specs.Lists.{asked_in}
use Rattle.ignore_dir.specs.Verdict.{placed_verdict, verdict_of}
use Rattle.ignore_levels.specs.declared.reason.Reason.{Reason}
use Rattle.ignore_levels.specs.Reasons.{Why, file_reason, placed_why, why_of}
use Rattle.ignore_levels.proofs.ReasonLemmas as l
use Rattle.ignore_levels.proofs.reason.judge.Goals as goal

pub returns-then-not-is_none-clause-why : goal.returns-then-not-is_none-clause-why
unfolding placed_why
returns-then-not-is_none-clause-why c = λ chain is after.
    let asked = c.args.asked.now in
    let overridden = c.in_ok-overridden.overridden in
    let some : is_none overridden ≡ false = search rules in
    let same = c.in_ok-overridden.ensures.answered
    ∙ ap (λ p. override_answer c.args.outside.now.overrides p asked.is_dir) c.trim_root.ensures in
    c.by_override.ensures.why asked.text.now
    ∙ l.overrides overridden _ (file_reason c.args.settings.now c.args.outside.now (asked_in asked.text.now chain) asked.path.now asked.is_dir) same
    some

pub returns-then-not-is_none-clause-value : goal.returns-then-not-is_none-clause-value
unfolding placed_why
returns-then-not-is_none-clause-value c = λ chain is after.
    let s = c.args.settings.now in
    let o = c.args.outside.now in
    let asked = c.args.asked.now in
    let overridden = c.in_ok-overridden.overridden in
    let some : is_none overridden ≡ false = search rules in
    let same = c.in_ok-overridden.ensures.answered
    ∙ ap (λ p. override_answer c.args.outside.now.overrides p asked.is_dir) c.trim_root.ensures in
    l.decided s o chain asked.text.now asked.path.now asked.is_dir c.by_override.result
    (c.by_override.ensures.why asked.text.now
    ∙ l.overrides overridden _ (file_reason s o (asked_in asked.text.now chain) asked.path.now asked.is_dir) same some)

pub returns-clause-why : goal.returns-clause-why
unfolding placed_why
returns-clause-why c = λ chain is after.
    let asked = c.args.asked.now in
    let overridden = c.in_ok-overridden.overridden in
    let none : is_none overridden ≡ true = search rules in
    let same = c.in_ok-overridden.ensures.answered
    ∙ ap (λ p. override_answer c.args.outside.now.overrides p asked.is_dir) c.trim_root.ensures in
    subst (λ (w : Match Why). IfOk c.by_file.result (λ r. match_map (why_of asked.text.now) r ≡ w)) (l.no_override overridden _ _ same none)
    (c.by_file.ensures.why chain is after)

pub returns-clause-value : goal.returns-clause-value
unfolding placed_why
returns-clause-value c = λ chain is after.
    let s = c.args.settings.now in
    let o = c.args.outside.now in
    let asked = c.args.asked.now in
    let overridden = c.in_ok-overridden.overridden in
    let none : is_none overridden ≡ true = search rules in
    let same = c.in_ok-overridden.ensures.answered
    ∙ ap (λ p. override_answer c.args.outside.now.overrides p asked.is_dir) c.trim_root.ensures in
    l.if_ok-map (λ (r : Match Reason). match_map (why_of asked.text.now) r ≡ placed_why s o chain asked.text.now asked.path.now asked.is_dir)
    (λ (r : Match Reason). verdict_of r ≡ placed_verdict s o chain asked.text.now asked.path.now asked.is_dir) c.by_file.result
    (λ r. l.decided s o chain asked.text.now asked.path.now asked.is_dir r)
    (subst (λ (w : Match Why). IfOk c.by_file.result (λ r. match_map (why_of asked.text.now) r ≡ w)) (l.no_override overridden _ _ same none)
    (c.by_file.ensures.why chain is after))

pub returns-then-not-is_none-clause-inside : goal.returns-then-not-is_none-clause-inside
returns-then-not-is_none-clause-inside c = c.by_override.ensures.inside c.args.asked.now.text.now
