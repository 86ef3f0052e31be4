use Rattle.std.proofs.Common.{ap, ◌∙◌, ℕ, List, subst}
use Rattle.ignore_walk.specs.Answered.{as_answer}
use Rattle.ignore_walk.proofs.open.open.Goals as goal

pub returns-clause-dir : goal.returns-clause-dir
returns-clause-dir g c = λ tree loads honest are.
    c.in_ok-dir.ensures.dir tree loads honest are
    (c.shown_by-shown.ensures tree honest _ (c.in_ok-answer.ensures.value tree honest)) ∙ ap (λ p. (loads p).0) c.as_str-at.ensures

pub returns-clause-problem : goal.returns-clause-problem
returns-clause-problem g c = λ tree loads honest are.
    c.in_ok-dir.ensures.problem tree loads honest are
    (c.shown_by-shown.ensures tree honest _ (c.in_ok-answer.ensures.value tree honest)) ∙ ap (λ p. (loads p).1) c.as_str-at.ensures

pub returns-clause-soft : goal.returns-clause-soft
returns-clause-soft g c = c.in_ok-dir.ensures.soft

pub returns-clause-listed : goal.returns-clause-listed
returns-clause-listed g c = (
  c.in_ok-answer.answer,
  subst (λ (p : List ℕ). g.F.Files.list_gives c.args.ground.now.files.now p (as_answer c.in_ok-answer.answer)) c.as_str-at.ensures
      c.in_ok-answer.ensures.answered,
  c.in_ok-rest.ensures.permuted,
)
