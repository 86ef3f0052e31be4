use Rattle.std.proofs.Common.{inl, inr}
use Rattle.std.proofs.lemmas.Result.{IfErr-weaker, IfOk-weaker}
use Rattle.commands.proofs.LineLemmas.{appends_nothing}
use Rattle.ig_commands.specs.Worktree.{worktree}
use Rattle.ig_commands.proofs.ignored.survey_worktree.Goals as goal

-- memory ran out before it began
pub returns-in_default-clause-ended : goal.returns-in_default-clause-ended
returns-in_default-clause-ended g c =
    inr (appends_nothing (g.W.Output.contents c.args.out.now), appends_nothing (g.E.Write.contents c.args.err.now))

pub returns-clause-lists : goal.returns-clause-lists
returns-clause-lists g c =
    let roots = c.in-Ok.roots.items in
    IfOk-weaker c.report_and_survey.result _ _
    (λ status h. (
      roots,
      h.0,
      c.in-Ok.ensures,
      h.1,
      λ tree honest none. (h.2 (worktree roots tree) (c.is_honest.ensures tree honest) none, h.3 tree honest),
    ))
    c.report_and_survey.ensures.lists

pub returns-clause-ended : goal.returns-clause-ended
returns-clause-ended g c =
    let roots = c.in-Ok.roots.items in
    IfErr-weaker c.report_and_survey.result _ _
    (λ stop h. inl (
      roots,
      h.0,
      c.in-Ok.ensures,
      h.1,
      λ tree honest none. (h.2 (worktree roots tree) (c.is_honest.ensures tree honest) none, h.3 tree honest),
    ))
    c.report_and_survey.ensures.ended
