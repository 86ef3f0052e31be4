use Rattle.ignore_dir.proofs.WholeLemmas.{entered-in, problems_below-is, root-reached, rules_verdict-is, verdict-in}
use Rattle.ignore_dir.proofs.laws.steps_are_whole.Goals as goal

pub returns-clause-root : goal.returns-clause-root
returns-clause-root c = root-reached

pub returns-clause-verdict : goal.returns-clause-verdict
returns-clause-verdict c = verdict-in

pub returns-clause-entered : goal.returns-clause-entered
returns-clause-entered c = entered-in

pub returns-clause-rules : goal.returns-clause-rules
returns-clause-rules c = rules_verdict-is

pub returns-clause-problems : goal.returns-clause-problems
returns-clause-problems c = problems_below-is
