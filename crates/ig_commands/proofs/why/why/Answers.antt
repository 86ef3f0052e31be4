use Rattle.std.proofs.Common.{inl, inr, map, option_map}
use Rattle.std.proofs.lemmas.Result.{IfErr-weaker, IfOk-weaker}
use Rattle.commands.proofs.LineLemmas.{appends_nothing}
use Rattle.ignore_base.specs.Problem.{problem_of}
use Rattle.ig_commands.specs.Listing.{RefusesOptions}
use Rattle.ig_commands.proofs.StopLemmas.{ends_at_once, refused}
use Rattle.ig_commands.proofs.why.why.Goals as goal

pub returns-in-Ok-clause-answers : goal.returns-in-Ok-clause-answers
returns-in-Ok-clause-answers g c =
    let b = c.in-Ok.asked.walk in
    let problems = map (option_map problem_of) c.in-Ok.asked.errors.items in
    IfOk-weaker c.report_and_ask.result _ _
    (λ status h. inl (b, problems, h.0, h.1, h.2, λ tree honest. (c.in-Ok.ensures.read tree honest, h.3 tree honest)))
    c.report_and_ask.ensures.answers

pub returns-in-Ok-clause-ended : goal.returns-in-Ok-clause-ended
returns-in-Ok-clause-ended g c =
    let b = c.in-Ok.asked.walk in
    let problems = map (option_map problem_of) c.in-Ok.asked.errors.items in
    IfErr-weaker c.report_and_ask.result _ _
    (λ stop h. inl (b, problems, h.0, h.1, h.2, λ tree honest. (c.in-Ok.ensures.read tree honest, h.3 tree honest)))
    c.report_and_ask.ensures.ended

-- the options are rejected
pub returns-in-Err-clause-answers : goal.returns-in-Err-clause-answers
returns-in-Err-clause-answers g c =
    let e = c.in-Err.error in
    refused c.refuse_or_end.result (problem_of e) (RefusesOptions c.args.world.now.env.now c.args.options.now c.args.first) _ _ c.in-Err.ensures.refused c.refuse_or_end.ensures.enough c.refuse_or_end.ensures.reports
    (λ status other is h. inr (problem_of e, other, is, appends_nothing (g.W.Output.contents c.args.out.now), h))

-- or memory ran out, or they can't be reported
pub returns-in-Err-clause-ended : goal.returns-in-Err-clause-ended
returns-in-Err-clause-ended g c =
    let out = g.W.Output.contents c.args.out.now in
    ends_at_once c.refuse_or_end.result out (g.E.Write.contents c.args.err.now) (g.E.Write.contents c.refuse_or_end.new.err)
    c.refuse_or_end.ensures.ended c.refuse_or_end.ensures.kept _ (λ stop h. inr h)
