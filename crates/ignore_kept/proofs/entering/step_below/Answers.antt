-- The guide refused, and its places stay.
use Rattle.ignore_kept.proofs.Leading.{ends_step, on_err}
use Rattle.ignore_kept.proofs.entering.step_below.Goals as goal

pub returns-in_err-step-clause-ends : goal.returns-in_err-step-clause-ends
returns-in_err-step-clause-ends c = λ idle.
    let e = c.in_err-step.ensures in
    on_err _ _ (ends_step c.args.begun.now c.ask_enter.new.self e.as_before e.kept e.gone e.same idle)
