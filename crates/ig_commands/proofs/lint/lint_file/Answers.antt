use Rattle.std.proofs.Common.{Err, Ok, refl, subst}
use Rattle.std.proofs.lemmas.Result.{IfOk-weaker}
use Rattle.commands.proofs.LineLemmas.{appends_nothing}
use Rattle.ignore_files.specs.Tree.{Answers}
use Rattle.ignore_files.specs.declared.types.Refusal.{Refusal}
use Rattle.ig_commands.specs.Lint.{looked, unread}
use Rattle.ig_commands.proofs.lint.lint_file.Goals as goal

-- it was read
pub returns-in-Ok-clause-lints : goal.returns-in-Ok-clause-lints
returns-in-Ok-clause-lints g c =
    let path = c.args.path.now in
    let contents = c.in-Ok.contents in
    IfOk-weaker c.lint_contents.result _ _
    (λ seen h. (
      looked path contents.fault h.0 h.1,
      h.7,
      h.8,
      h.9,
      h.10,
      h.6,
      λ tree honest. (refl, (contents, honest.contents path (Ok contents) c.in-Ok.ensures, refl, (h.2, h.3, h.4), h.5)),
    )) c.lint_contents.ensures.lints

-- it can't be read
pub returns-in-Err-clause-lints : goal.returns-in-Err-clause-lints
returns-in-Err-clause-lints g c =
    let path = c.args.path.now in
    IfOk-weaker c.report_refusal.result _ _
    (λ seen h. (
      unread path h.0,
      h.2,
      h.3,
      appends_nothing (g.W.Output.contents c.args.out.now),
      h.5,
      h.4,
      λ tree honest. (refl, subst (λ (r : Refusal). Answers (tree.contents path) (Err r)) h.1 (honest.contents path (Err c.in-Err.refusal) c.in-Err.ensures)),
    )) c.report_refusal.ensures.reports
