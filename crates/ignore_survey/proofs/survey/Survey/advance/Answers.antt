use Rattle.std.proofs.Common.{◌≡◌, ◌∷◌, [], Err, Option, inl, inr, refl, sym, ap, subst, arith, ◌∙◌}
use Rattle.ignore_survey.specs.Nexts.{Nexts, Shows}
use Rattle.ignore_survey.specs.Survey.{Item}
use Rattle.ignore_survey.specs.Surveyed.{item_of}
use Rattle.ignore_survey.proofs.survey.Survey.advance.Goals as goal

pub returns-then-self-clause-given : goal.returns-then-self-clause-given
returns-then-self-clause-given g c = λ s items r. absurd (let e = sym r.goes_on ∙ c.if-self.true in cc (e))

pub returns-in-Err-clause-given : goal.returns-in-Err-clause-given
returns-in-Err-clause-given g c = λ s items r.
    subst (λ (o : Option Item). Nexts g.F.Files s c.args.self.now o c.end.new.self items) (sym c.end.ensures.item)
    (inr (inl (ap Err c.in-Err.ensures.out_of_memory), c.end.ensures.ended))

pub returns-in-Ok-None-clause-given : goal.returns-in-Ok-None-clause-given
returns-in-Ok-None-clause-given g c = λ s items r. (rw c.in-Ok-None.field-0-is at (c.in-Ok-None.ensures.given s items r.suits)).0 r.stands

pub returns-then-self-eq0-clause-given : goal.returns-then-self-eq0-clause-given
returns-then-self-eq0-clause-given g c = λ s items r.
    let h = (rw c.in-Ok-Some.field-0-is at (c.in-Ok-Some.ensures.given s items r.suits)).0 r.stands in
    let empty : c.args.self.now.left ≡ 0 = omega (c.step.ensures.left, c.if-self-eq0.true, arith) in
    subst (λ (o : Option Item). Nexts g.F.Files s c.args.self.now o c.end-then-self-eq0.new.self items) (sym c.end-then-self-eq0.ensures.item)
    (inr (inr (ap Err c.step_limit.ensures, (empty, λ none. let e = sym h.are ∙ none in cc (e))), c.end-then-self-eq0.ensures.ended))

pub returns-else-self-eq0-clause-given : goal.returns-else-self-eq0-clause-given
returns-else-self-eq0-clause-given g c = λ s items r.
    let h = (rw c.in-Ok-Some.field-0-is at (c.in-Ok-Some.ensures.given s items r.suits)).0 r.stands in
    inl (record {
      others = h.others;
      are = h.are;
      rest = record { suits = c.step.ensures.suits s r.suits; goes_on = c.step.ensures.ended ∙ r.goes_on; stands = h.rest };
      left = omega (c.step.ensures.left, c.if-self-eq0.false, arith);
    })

pub returns-then-self-clause-shows : goal.returns-then-self-clause-shows
returns-then-self-clause-shows g c = λ s suits on. absurd (let e = sym on ∙ c.if-self.true in cc (e))

pub returns-in-Err-clause-shows : goal.returns-in-Err-clause-shows
returns-in-Err-clause-shows g c = λ s suits on.
    subst (λ (o : Option Item). Shows s c.args.self.now.stack o c.end.new.self) (sym c.end.ensures.item)
    (inl (inl (ap Err c.in-Err.ensures.out_of_memory), c.end.ensures.ended))

pub returns-in-Ok-None-clause-shows : goal.returns-in-Ok-None-clause-shows
returns-in-Ok-None-clause-shows g c = λ s suits on. (rw c.in-Ok-None.field-0-is at (c.in-Ok-None.ensures.given s [] suits)).1 refl

pub returns-then-self-eq0-clause-shows : goal.returns-then-self-eq0-clause-shows
returns-then-self-eq0-clause-shows g c = λ s suits on.
    subst (λ (o : Option Item). Shows s c.args.self.now.stack o c.end-then-self-eq0.new.self) (sym c.end-then-self-eq0.ensures.item)
    (inl (inr (ap Err c.step_limit.ensures), c.end-then-self-eq0.ensures.ended))

pub returns-else-self-eq0-clause-shows : goal.returns-else-self-eq0-clause-shows
returns-else-self-eq0-clause-shows g c = λ s suits on. inr (
  c.step.ensures.ended ∙ on,
  λ items stands.
      (rw c.in-Ok-Some.field-0-is at (c.in-Ok-Some.ensures.given s (item_of c.in-Ok-Some.item ∷ items) suits)).1 (record { others = items; are = refl; rest = stands }),
)

pub returns-then-self-clause-counted : goal.returns-then-self-clause-counted
returns-then-self-clause-counted g c = rw c.if-self.true refl

pub returns-in-Err-clause-counted : goal.returns-in-Err-clause-counted
returns-in-Err-clause-counted g c = rw c.end.ensures.ended (sym (c.end.ensures.left ∙ c.step.ensures.left))

pub returns-then-self-eq0-clause-counted : goal.returns-then-self-eq0-clause-counted
returns-then-self-eq0-clause-counted g c =
    rw c.end-then-self-eq0.ensures.ended (sym (c.end-then-self-eq0.ensures.left ∙ c.step.ensures.left))

pub returns-else-self-eq0-clause-counted : goal.returns-else-self-eq0-clause-counted
returns-else-self-eq0-clause-counted g c =
    let on = c.step.ensures.ended ∙ c.if-self.false in
    rw on (omega (c.step.ensures.left, c.if-self-eq0.false, arith))

pub returns-else-self-eq0-clause-goes_on : goal.returns-else-self-eq0-clause-goes_on
returns-else-self-eq0-clause-goes_on g c = λ on. rw c.in-Ok-Some.field-0-is at c.in-Ok-Some.ensures.goes_on
