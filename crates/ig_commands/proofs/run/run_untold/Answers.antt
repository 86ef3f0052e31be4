use Rattle.std.proofs.Common.{inl, inr}
use Rattle.std.proofs.lemmas.Result.{IfErr-weaker, IfOk-weaker}
use Rattle.commands.proofs.LineLemmas.{appends_nothing}
use Rattle.ignore_base.specs.Problem.{problem_of}
use Rattle.ig_commands.specs.Listing.{RefusesOptions}
use Rattle.ig_commands.specs.Run.{types_at_first}
use Rattle.ig_commands.proofs.StopLemmas.{ends_at_once, refused}
use Rattle.ig_commands.proofs.run.run_untold.Goals as goal

-- the command is carried out, and what it reports goes nowhere
pub returns-in-Ok-clause-done : goal.returns-in-Ok-clause-done
returns-in-Ok-clause-done g c =
    IfOk-weaker c.run_call.result _ _ (λ status h. inl (h, appends_nothing (g.E.Write.contents c.args.err.now))) c.run_call.ensures.done

pub returns-in-Ok-clause-ended : goal.returns-in-Ok-clause-ended
returns-in-Ok-clause-ended g c =
    IfErr-weaker c.run_call.result _ _ (λ stop h. inl (h, appends_nothing (g.E.Write.contents c.args.err.now))) c.run_call.ensures.ended

-- the options are rejected
pub returns-in-Err-clause-done : goal.returns-in-Err-clause-done
returns-in-Err-clause-done g c =
    let e = c.in-Err.error in
    refused c.refuse_or_end.result (problem_of e) (RefusesOptions c.args.world.now.env.now c.args.call.now.options.now types_at_first) _ _ c.in-Err.ensures.refused c.refuse_or_end.ensures.enough c.refuse_or_end.ensures.reports
    (λ status other is h. inr (problem_of e, other, is, appends_nothing (g.W.Output.contents c.args.out.now), h))

-- or memory ran out, or they can't be reported
pub returns-in-Err-clause-ended : goal.returns-in-Err-clause-ended
returns-in-Err-clause-ended g c =
    let out = g.W.Output.contents c.args.out.now in
    ends_at_once c.refuse_or_end.result out (g.E.Write.contents c.args.err.now) (g.E.Write.contents c.refuse_or_end.new.err)
    c.refuse_or_end.ensures.ended c.refuse_or_end.ensures.kept _ (λ stop h. inr h)
