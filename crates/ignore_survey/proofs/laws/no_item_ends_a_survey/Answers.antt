use Rattle.ignore_survey.proofs.RunLemmas.{survey_finished}
use Rattle.ignore_survey.proofs.laws.no_item_ends_a_survey.Goals as goal

pub returns : goal.returns
returns c = λ g items is. survey_finished g items is
