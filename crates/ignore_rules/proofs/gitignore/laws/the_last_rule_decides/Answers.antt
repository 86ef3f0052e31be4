use Rattle.ignore_rules.proofs.AnswerLemmas.{answer_by_the_last}
use Rattle.ignore_rules.proofs.gitignore.laws.the_last_rule_decides.Goals as goal

pub returns : goal.returns
returns c = answer_by_the_last c.matching_is_decided.ensures
