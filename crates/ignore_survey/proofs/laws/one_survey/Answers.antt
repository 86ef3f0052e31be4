use Rattle.ignore_survey.proofs.OneSurvey.{one_survey}
use Rattle.ignore_survey.proofs.laws.one_survey.Goals as goal

pub returns : goal.returns
returns c = λ g xs ys a b. one_survey g xs ys a b
