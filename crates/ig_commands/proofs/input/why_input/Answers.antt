use Rattle.std.proofs.Common.{◌≡◌, ◌⊎◌, inl, inr, map, option_map, subst}
use Rattle.std.proofs.lemmas.Result.{IfErr-weaker, IfOk-weaker}
use Rattle.commands.proofs.LineLemmas.{appends_nothing}
use Rattle.ignore_base.specs.Problem.{memory, problem_of}
use Rattle.ignore_types.specs.Types.{Draft}
use Rattle.ig_commands.specs.Listing.{IsAsked, RefusesOptions}
use Rattle.ig_commands.specs.Run.{types_at_first}
use Rattle.ig_commands.proofs.StopLemmas.{ends_at_once, refused}
use Rattle.ig_commands.proofs.input.why_input.Goals as goal

-- out of memory for the types, it doesn't begin
pub returns-in_default-clause-ended : goal.returns-in_default-clause-ended
returns-in_default-clause-ended g c = inr (appends_nothing (g.W.Output.contents c.args.out.now), appends_nothing (g.E.Write.contents c.args.err.now))

pub returns-in-Ok-asked_for-clause-answers : goal.returns-in-Ok-asked_for-clause-answers
returns-in-Ok-asked_for-clause-answers g c =
    let b = c.in-Ok-asked_for.asked.walk in
    let problems = map (option_map problem_of) c.in-Ok-asked_for.asked.errors.items in
    IfOk-weaker c.report_and_answer.result _ _
    (λ status h. inl (
      b,
      problems,
      h.0,
      h.1,
      h.2,
      h.3,
      h.4,
      λ tree honest. (subst (λ (d : Draft). IsAsked tree c.args.world.now.env.now c.args.options.now d b problems) c.in-Ok.ensures.value (c.in-Ok-asked_for.ensures.read tree honest), h.5 tree honest),
    ))
    c.report_and_answer.ensures.answers

pub returns-in-Ok-asked_for-clause-ended : goal.returns-in-Ok-asked_for-clause-ended
returns-in-Ok-asked_for-clause-ended g c =
    let b = c.in-Ok-asked_for.asked.walk in
    let problems = map (option_map problem_of) c.in-Ok-asked_for.asked.errors.items in
    IfErr-weaker c.report_and_answer.result _ _
    (λ stop h. inl (
      b,
      problems,
      h.0,
      h.1,
      h.2,
      h.3,
      h.4,
      λ tree honest. (subst (λ (d : Draft). IsAsked tree c.args.world.now.env.now c.args.options.now d b problems) c.in-Ok.ensures.value (c.in-Ok-asked_for.ensures.read tree honest), h.5 tree honest),
    ))
    c.report_and_answer.ensures.ended

-- the options are rejected
pub returns-in-Err-clause-answers : goal.returns-in-Err-clause-answers
returns-in-Err-clause-answers g c =
    let e = c.in-Err.error in
    refused c.refuse_or_end.result (problem_of e) (RefusesOptions c.args.world.now.env.now c.args.options.now types_at_first) _ _
    (subst (λ (d : Draft). (problem_of e ≡ memory) ⊎ RefusesOptions c.args.world.now.env.now c.args.options.now d (problem_of e)) c.in-Ok.ensures.value c.in-Err.ensures.refused)
    c.refuse_or_end.ensures.enough c.refuse_or_end.ensures.reports
    (λ status other is h. inr (problem_of e, other, is, appends_nothing (g.W.Output.contents c.args.out.now), h))

-- or memory ran out, or they can't be reported
pub returns-in-Err-clause-ended : goal.returns-in-Err-clause-ended
returns-in-Err-clause-ended g c =
    let out = g.W.Output.contents c.args.out.now in
    ends_at_once c.refuse_or_end.result out (g.E.Write.contents c.args.err.now) (g.E.Write.contents c.refuse_or_end.new.err)
    c.refuse_or_end.ensures.ended c.refuse_or_end.ensures.kept _ (λ stop h. inr h)
