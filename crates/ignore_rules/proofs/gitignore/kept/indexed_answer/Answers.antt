use Rattle.std.proofs.Common.{ℕ, Option, drop, map, subst, sym, ◌∙◌}
use Rattle.std.specs.Str.{chars}
use Rattle.ignore_set.specs.Sets.{IsLastMatch}
use Rattle.ignore_rules.specs.RuleIndex.{rule_member}
use Rattle.ignore_rules.proofs.IndexLemmas.{none_decides, last_decides}
use Rattle.ignore_rules.proofs.gitignore.kept.indexed_answer.Goals as goal

pub returns-in-Some-clause-answered : goal.returns-in-Some-clause-answered
returns-in-Some-clause-answered c = λ at.
    let rules = c.args.globs.now in
    let text = chars (drop c.args.offset c.args.haystack.now) in
    let found = subst (λ (o : Option ℕ). IsLastMatch text c.args.is_dir (map rule_member rules) o) c.in-Some.is (c.in_ok-i.ensures.value at) in
    c.decision.ensures
    ∙ sym (last_decides c.matching_is_decided.ensures rules text c.args.is_dir c.in-Some.i c.index-globs-i.result c.index-globs-i.is found)

pub returns-in-None-clause-answered : goal.returns-in-None-clause-answered
returns-in-None-clause-answered c = λ at.
    let rules = c.args.globs.now in
    let text = chars (drop c.args.offset c.args.haystack.now) in
    let none = subst (λ (o : Option ℕ). IsLastMatch text c.args.is_dir (map rule_member rules) o) c.in-None.is (c.in_ok-i.ensures.value at) in
    sym (none_decides c.matching_is_decided.ensures rules text c.args.is_dir none)
