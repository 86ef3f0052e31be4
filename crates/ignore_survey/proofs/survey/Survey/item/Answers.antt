use Rattle.ignore_survey.proofs.LeftLemmas.{finds_as, iff_trans}
use Rattle.ignore_survey.proofs.survey.Survey.item.Goals as goal

pub returns-in-Err-clause-hands : goal.returns-in-Err-clause-hands
returns-in-Err-clause-hands g c = λ s items suits. finds_as s c.args.self.now.stack c.args.found _ items c.in-Err.is

pub returns-in_ok-visit-in-Ok-clause-hands : goal.returns-in_ok-visit-in-Ok-clause-hands
returns-in_ok-visit-in-Ok-clause-hands g c = λ s items suits.
    iff_trans (finds_as s c.args.self.now.stack c.args.found _ items c.in-Ok.is) (c.in_ok-visit-in-Ok.ensures.hands s items suits)

pub returns-in-Err-clause-goes_on : goal.returns-in-Err-clause-goes_on
returns-in-Err-clause-goes_on g c = λ root fault. rw c.in-Err.is at fault

pub returns-in_ok-visit-in-Ok-clause-goes_on : goal.returns-in_ok-visit-in-Ok-clause-goes_on
returns-in_ok-visit-in-Ok-clause-goes_on g c = λ root fault. c.in_ok-visit-in-Ok.ensures.soft
