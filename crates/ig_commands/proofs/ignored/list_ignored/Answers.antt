use Rattle.std.proofs.Common.{inl, inr, map, option_map}
use Rattle.std.proofs.lemmas.Result.{IfErr-weaker, IfOk-weaker}
use Rattle.commands.proofs.LineLemmas.{appends_nothing}
use Rattle.ignore_base.specs.Problem.{problem_of}
use Rattle.ig_commands.proofs.AskedLemmas.{none_met}
use Rattle.ig_commands.specs.Listing.{RefusesOptions}
use Rattle.ig_commands.proofs.StopLemmas.{ends_at_once, refused}
use Rattle.ig_commands.proofs.ignored.list_ignored.Goals as goal

pub returns-in-Ok-clause-lists : goal.returns-in-Ok-clause-lists
returns-in-Ok-clause-lists g c =
    let b = c.in-Ok.asked.walk in
    let problems = map (option_map problem_of) c.in-Ok.asked.errors.items in
    IfOk-weaker c.survey_worktree.result _ _
    (λ status h. inl (
      b,
      problems,
      h.0,
      h.1,
      h.2,
      h.3,
      λ tree honest.
          let asked = c.in-Ok.ensures.read tree honest in
          let met = h.4 tree honest (none_met tree c.args.world.now.env.now c.args.options.now c.args.first b problems asked) in
          (asked, met.0, met.1),
    ))
    c.survey_worktree.ensures.lists

pub returns-in-Ok-clause-ended : goal.returns-in-Ok-clause-ended
returns-in-Ok-clause-ended g c =
    let b = c.in-Ok.asked.walk in
    let problems = map (option_map problem_of) c.in-Ok.asked.errors.items in
    IfErr-weaker c.survey_worktree.result _ _
    (λ stop h. elim h [
      | inl k ↦ inl (
        b,
        problems,
        k.0,
        k.1,
        k.2,
        k.3,
        λ tree honest.
            let asked = c.in-Ok.ensures.read tree honest in
            let met = k.4 tree honest (none_met tree c.args.world.now.env.now c.args.options.now c.args.first b problems asked) in
            (asked, met.0, met.1),
      )
      | inr k ↦ inr k
    ])
    c.survey_worktree.ensures.ended

-- the options are rejected
pub returns-in-Err-clause-lists : goal.returns-in-Err-clause-lists
returns-in-Err-clause-lists g c =
    let e = c.in-Err.error in
    refused c.refuse_or_end.result (problem_of e) (RefusesOptions c.args.world.now.env.now c.args.options.now c.args.first) _ _ c.in-Err.ensures.refused c.refuse_or_end.ensures.enough c.refuse_or_end.ensures.reports
    (λ status other is h. inr (problem_of e, other, is, appends_nothing (g.W.Output.contents c.args.out.now), h))

-- or memory ran out, or they can't be reported
pub returns-in-Err-clause-ended : goal.returns-in-Err-clause-ended
returns-in-Err-clause-ended g c =
    let out = g.W.Output.contents c.args.out.now in
    ends_at_once c.refuse_or_end.result out (g.E.Write.contents c.args.err.now) (g.E.Write.contents c.refuse_or_end.new.err)
    c.refuse_or_end.ensures.ended c.refuse_or_end.ensures.kept _ (λ stop h. inr h)
