use Rattle.std.proofs.Common.{length, ap, ◌∙◌}
use Rattle.ignore_rules.proofs.AnswerLemmas.{length-counts}
use Rattle.ignore_rules.proofs.gitignore.matcher.Gitignore.len.Goals as goal

pub returns-clause-kinds : goal.returns-clause-kinds
returns-clause-kinds c = ap length c.rules.ensures ∙ length-counts c.args.self.now.rules
