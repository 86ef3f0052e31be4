use Rattle.std.proofs.Common.{inl, inr}
use Rattle.std.proofs.lemmas.Result.{IfOk-weaker}
use Rattle.ig_commands.proofs.run.run.Goals as goal

pub returns-in-Ok-clause-runs : goal.returns-in-Ok-clause-runs
returns-in-Ok-clause-runs g c =
    IfOk-weaker c.run_timed.result _ _ (λ x h. inl (c.in-Ok.task, c.in-Ok.options, h.0, h.1)) c.run_timed.ensures.runs

-- the parser had the last word
pub returns-in-Err-clause-runs : goal.returns-in-Err-clause-runs
returns-in-Err-clause-runs g c = IfOk-weaker c.run_shown.result _ _ (λ x h. inr h) c.run_shown.ensures.runs
