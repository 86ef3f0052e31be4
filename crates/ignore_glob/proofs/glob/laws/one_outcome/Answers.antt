use Rattle.ignore_glob.proofs.OutcomeLemmas.{find_outcome, Lexed-same}
use Rattle.ignore_glob.proofs.glob.laws.one_outcome.Goals as goal

pub returns-clause-one : goal.returns-clause-one
returns-clause-one c = find_outcome

pub returns-clause-same : goal.returns-clause-same
returns-clause-same c o text = Lexed-same o 0 text
