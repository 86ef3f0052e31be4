use Rattle.std.proofs.Common.{ap, sym, subst, ◌∙◌}
use Rattle.ignore_rules.specs.declared.gitignore.kept.Kept.{Kept}
use Rattle.ignore_rules.specs.Kept.{kept_rules}
use Rattle.ignore_rules.specs.RuleIndex.{AreShortRules}
use Rattle.ignore_rules.specs.Rules.{Ruleset}
use Rattle.ignore_rules.proofs.gitignore.kept.Kept.answer.Goals as goal

pub returns-in-Shared-clause-succeeds : goal.returns-in-Shared-clause-succeeds
returns-in-Shared-clause-succeeds c short =
    c.answer.ensures.succeeds
    (subst AreShortRules (ap (λ (k : Kept). (kept_rules k).rules) c.in-Shared.is ∙ sym (ap (λ (r : Ruleset). r.rules) c.deref.ensures)) short)

pub returns-in-Alone-clause-succeeds : goal.returns-in-Alone-clause-succeeds
returns-in-Alone-clause-succeeds c short =
    c.answer_after.ensures.succeeds
    (subst AreShortRules (ap (λ (k : Kept). (kept_rules k).rules) c.in-Alone.is ∙ sym c.globs.ensures) short)
