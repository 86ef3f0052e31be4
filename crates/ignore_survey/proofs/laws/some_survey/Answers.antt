-- Each directory below a root has a greater number than that which lists it.
use Rattle.ignore_survey.proofs.SomeSurvey.{some_survey}
use Rattle.ignore_survey.proofs.laws.some_survey.Goals as goal

pub returns : goal.returns
returns c = λ g n dirs. some_survey c.join_law.ensures.name g n dirs
