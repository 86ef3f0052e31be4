use Rattle.std.proofs.Common.{IfErr, string_bytes, sym, ◌∙◌, ap, subst}
use Rattle.ignore_base.specs.Problem.{problem_of}
use Rattle.ignore_base.specs.Text.{Path}
use Rattle.ignore_dir.specs.Scene.{QueryScene}
use Rattle.ignore_survey.specs.Middle.{IsUnlisted}
use Rattle.ignore_survey.proofs.LeftLemmas.{iff_trans}
use Rattle.ignore_survey.proofs.survey.Survey.step.Goals as goal

pub returns-in-None-clause-given : goal.returns-in-None-clause-given
returns-in-None-clause-given g c = λ s items suits.
    rw c.in-None.is at (c.in_ok-next.ensures.finds s items suits.honest (ap (λ (x : QueryScene). x.root) suits.scene ∙ sym c.root-root.ensures))

pub returns-in_ok-item-in-Some-clause-given : goal.returns-in_ok-item-in-Some-clause-given
returns-in_ok-item-in-Some-clause-given g c = λ s items suits.
    let finds = c.in_ok-next.ensures.finds s items suits.honest (ap (λ (x : QueryScene). x.root) suits.scene ∙ sym c.root-root.ensures) in
    iff_trans (rw c.in-Some.is at finds) (c.in_ok-item-in-Some.ensures.hands s items suits)

pub returns-in_ok-item-in-Some-clause-goes_on : goal.returns-in_ok-item-in-Some-clause-goes_on
returns-in_ok-item-in-Some-clause-goes_on g c =
    let at_root = rw c.in-Some.is at c.in_ok-next.ensures.unlisted in
    let fault = subst (λ (r : Path). IfErr c.in-Some.found (λ e. IsUnlisted r (problem_of e))) c.root-root.ensures at_root in
    c.in_ok-item-in-Some.ensures.goes_on (string_bytes c.args.self.now.matcher.asked.root) fault
