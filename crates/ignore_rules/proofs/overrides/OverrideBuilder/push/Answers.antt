use Rattle.std.proofs.Common.{◌≡◌, ◌⊎◌, None, OnOk, IfErr, subst}
use Rattle.ignore_base.specs.Problem.{problem_of, memory}
use Rattle.ignore_rules.specs.Rules.{Building, AddsLine, Refuses}
use Rattle.ignore_rules.proofs.overrides.OverrideBuilder.push.Goals as goal

pub returns-clause-added : goal.returns-clause-added
returns-clause-added c =
    subst (λ (b : Building). OnOk c.push_line.result
    (AddsLine b None c.args.glob.now c.push_line.new.self)) c.self.view_is c.push_line.ensures.added

pub returns-clause-refused : goal.returns-clause-refused
returns-clause-refused c =
    subst (λ (b : Building). IfErr c.push_line.result
    (λ e. (problem_of e ≡ memory) ⊎ Refuses b.options c.args.glob.now (problem_of e))) c.self.view_is c.push_line.ensures.refused
