-- The call that waited goes on.
use Rattle.std.proofs.Common.{Option, sym, subst, ◌∙◌}
use Rattle.ignore_guide.specs.Hosted.{IsToldOf}
use Rattle.ignore_guide.specs.declared.hosted.Waiting.{Waiting}
use Rattle.ignore_guide.specs.declared.told.Told.{Told}
use Rattle.ignore_kept.proofs.Leading.{as_waiting}
use Rattle.ignore_kept.specs.Given.{IsGiven}
use Rattle.ignore_kept.specs.Guides.{Steps}
use Rattle.ignore_kept.proofs.entering.give_in.Goals as goal

pub returns-in-Ok-step_on : goal.returns-in-Ok-step_on
returns-in-Ok-step_on c =
    let begun = c.args.begun.now in
    let gift = c.args.gift in
    let w = c.in-Some-replace.waiting in
    let given = c.in-Ok.given in
    let is = sym c.replace.ensures.value ∙ c.in-Some-replace.is in
    let same = as_waiting begun.waits c.in-Some.waiting w c.in-Some.is is in (
      w,
      is,
      (
        given,
        subst (λ (v : Waiting). IsGiven v.question.wanted gift.kind gift.bytes.now gift.fault given) same c.in-Ok.ensures.given,
        subst (λ (x : Option Waiting). (told : Told) × IsToldOf w.question given w.told told
            × Steps (record begun { waits = x }) w.call told c.in-Ok-step_on.place c.step_on.new.begun) c.replace.ensures.after
            c.in-Ok-step_on.ensures.steps,
      ),
    )
