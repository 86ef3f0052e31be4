use Rattle.std.proofs.Common.{None, subst}
use Rattle.ignore_rules.specs.Rules.{AddsLine, Building}
use Rattle.ig_every.proofs.lines.rule_of.Goals as goal

pub returns-clause-added : goal.returns-clause-added
returns-clause-added c = (
  c.push_line.new.self,
  subst (λ (b : Building). AddsLine b None c.args.content.now c.push_line.new.self) c.in_ok-builder.ensures.value c.in_ok-push_line.ensures.added,
  c.into_gitignore.ensures,
)
