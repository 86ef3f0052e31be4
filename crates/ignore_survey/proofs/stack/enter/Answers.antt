use Rattle.std.proofs.Common.{◌≡◌, Err, refl, sym, ◌∙◌, ap, subst}
use Rattle.ignore_base.specs.Problem.{Problem, at_path, io, problem_of}
use Rattle.ignore_base.specs.Text.{Path}
use Rattle.ignore_survey.specs.Survey.{Lists, place}
use Rattle.ignore_survey.proofs.LeftLemmas.{enters_failed, enters_listed}
use Rattle.ignore_survey.specs.declared.stack.Frame.{Frame}
use Rattle.ignore_survey.proofs.stack.enter.Goals as goal

pub returns-in_ok-rest-in-Ok-clause-enters : goal.returns-in_ok-rest-in-Ok-clause-enters
returns-in_ok-rest-in-Ok-clause-enters g c = λ s honest root.
    let there : c.as_str-2.result.now ≡ place s.root c.args.path =
    c.as_str-2.ensures.value ∙ (c.in_ok-place.ensures ∙ (ap (λ (p : Path). place c.args.root.now p) c.as_str.ensures
    ∙ ap (λ (r : Path). place r c.args.path) (sym root))) in
    let lists : Lists s.tree c.as_str-2.result.now c.in_ok-rest-in-Ok.rest.items =
    (c.in-Ok.listing, c.in_ok-listing.ensures.value s.tree honest ∙ c.in-Ok.is, c.in_ok-rest-in-Ok.ensures c.as_str-2.result.now) in
    let f : Frame = record { path = c.args.path; rest = c.in_ok-rest-in-Ok.rest } in
    enters_listed s c.args.path f refl (subst (λ (p : Path). Lists s.tree p c.in_ok-rest-in-Ok.rest.items) there lists)

pub returns-in_ok-unlisted-in-Err-clause-enters : goal.returns-in_ok-unlisted-in-Err-clause-enters
returns-in_ok-unlisted-in-Err-clause-enters g c = λ s honest root.
    let f = c.in-Err.fault in
    let there : c.as_str-2.result.now ≡ place s.root c.args.path =
    c.as_str-2.ensures.value ∙ (c.in_ok-place.ensures ∙ (ap (λ (p : Path). place c.args.root.now p) c.as_str.ensures
    ∙ ap (λ (r : Path). place r c.args.path) (sym root))) in
    let shut : s.tree.list (place s.root c.args.path) ≡ Err f =
    ap s.tree.list (sym there) ∙ (c.in_ok-listing.ensures.value s.tree honest ∙ c.in-Err.is) in
    let at : Path → Path → Problem = λ r p. at_path (place r p) (io f) in
    let is : problem_of c.in_ok-unlisted-in-Err.field-0 ≡ at s.root c.args.path =
    c.in_ok-unlisted-in-Err.ensures ∙ (ap (at c.args.root.now) c.as_str-in-Err.ensures ∙ ap (λ (r : Path). at r c.args.path) (sym root)) in
    enters_failed s c.args.path c.in_ok-unlisted-in-Err.field-0 f shut is
