use Rattle.std.proofs.Common.{ap, Some}
use Rattle.ignore_rules.specs.Rules.{Building}
use Rattle.ignore_rules.proofs.BuilderLemmas.{gives_rule}
use Rattle.ignore_rules.proofs.gitignore.builder.GitignoreBuilder.push_parsed.Goals as goal

pub returns-in-Ok-clause-added : goal.returns-in-Ok-clause-added
returns-in-Ok-clause-added c =
    let same = ap (λ (b : Building). b.options.glob) c.self.view_is in
    let parsed = gives_rule c.args.self.now.options c.self.inside.options _ c.args.parsed_line c.actual.result.now c.in-Ok.pattern
    c.new.result same c.actual.ensures c.in-Ok.ensures.reading c.in-Ok.ensures.case c.new.ensures in
    (Some c.new.result, parsed, c.in_ok-push_glob-in-Ok.ensures.added)
