use Rattle.ignore_survey.proofs.LeftLemmas.{iff_trans, ok_more}
use Rattle.ignore_survey.proofs.stack.Stack.next.Goals as goal

pub returns-in-Some-clause-finds : goal.returns-in-Some-clause-finds
returns-in-Some-clause-finds g c = λ s items honest root. rw c.in-Some.is at (c.in_ok-error.ensures.opens s items honest root)

pub returns-clause-finds : goal.returns-clause-finds
returns-clause-finds g c = λ s items honest root.
    let opens = rw c.in_default.is at (c.in_ok-error.ensures.opens s items honest root) in
    ok_more _ _ c.take.result (λ r takes. iff_trans opens takes) (c.take.ensures.finds s items root c.in_ok-error.ensures.none_waits)
