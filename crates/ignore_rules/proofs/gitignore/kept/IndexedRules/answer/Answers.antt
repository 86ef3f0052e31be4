use Rattle.std.proofs.Common.{ap, map, sym, subst, ◌∙◌}
use Rattle.ignore_set.specs.Index.{IsIndexOf}
use Rattle.ignore_rules.specs.Rules.{Ruleset}
use Rattle.ignore_rules.specs.RuleIndex.{AreShortRules, rule_member}
use Rattle.ignore_rules.proofs.gitignore.kept.IndexedRules.answer.Goals as goal

pub returns-clause-succeeds : goal.returns-clause-succeeds
returns-clause-succeeds c short =
    c.indexed_answer.ensures.succeeds
    (subst AreShortRules (sym (ap (λ (s : Ruleset). s.rules) c.self.view_is) ∙ sym c.globs.ensures) short)

pub indexed_answer-requires : goal.indexed_answer-requires
indexed_answer-requires c =
    subst (λ rules. IsIndexOf c.self.inside.index (map rule_member rules)) (sym c.globs.ensures) c.self.invariant
