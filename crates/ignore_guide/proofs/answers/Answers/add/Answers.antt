-- The answer that was added is the last one.
use Rattle.ignore_guide.proofs.AnswerLemmas.{answer_more}
use Rattle.ignore_guide.proofs.answers.Answers.add.Goals as goal

pub returns : goal.returns
returns g c = λ text. answer_more _ _ _ (c.in_ok-push.ensures.items) text
