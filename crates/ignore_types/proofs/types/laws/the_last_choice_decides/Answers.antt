use Rattle.ignore_types.proofs.TypeAnswers.{answers_by_the_last_choice}
use Rattle.ignore_types.proofs.types.laws.the_last_choice_decides.Goals as goal

pub returns : goal.returns
returns c = answers_by_the_last_choice c.matching_is_decided.ensures
