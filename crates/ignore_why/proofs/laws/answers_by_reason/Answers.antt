use Rattle.ignore_why.proofs.QueryWhyLemmas.{answers-by_reason}
use Rattle.ignore_why.proofs.laws.answers_by_reason.Goals as goal

pub returns : goal.returns
returns c = record { law = λ g path is_dir. answers-by_reason g path is_dir }
