use Rattle.ignore_survey.proofs.RunLemmas.{run_is_the_list}
use Rattle.ignore_survey.proofs.laws.a_finished_survey_is_the_list.Goals as goal

pub returns : goal.returns
returns g c = λ s a all drains starts done. run_is_the_list _ s a all drains starts done
