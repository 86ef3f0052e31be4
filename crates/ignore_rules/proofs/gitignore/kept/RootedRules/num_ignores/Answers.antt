use Rattle.std.proofs.Common.{◌≡◌, ◌-◌, length, ap, ◌∙◌, arith, rules}
use Rattle.ignore_rules.specs.Rules.{Ruleset, ignore_count}
use Rattle.ignore_rules.proofs.AnswerLemmas.{length-counts}
use Rattle.ignore_rules.proofs.gitignore.kept.RootedRules.num_ignores.Goals as goal

pub returns : goal.returns
returns c =
    let rules_are = c.self.inside.globs.items in
    let all : c.len.result ≡ length rules_are = search rules in
    let kinds = length-counts rules_are in
    let left : c.len.result - c.self.inside.whitelists ≡ ignore_count rules_are = omega (arith, all, kinds, c.self.invariant) in
    left ∙ ap (λ (r : Ruleset). ignore_count r.rules) c.self.view_is
