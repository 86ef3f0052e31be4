use Rattle.std.proofs.Common.{◌≡◌, ◌<◌, get_or, length, sym, ◌∙◌, ap, subst}
use Rattle.std.specs.Str.{bytes_eq}
use Rattle.ignore_guide.proofs.AnswerLemmas.{is_there}
use Rattle.ignore_guide.proofs.answers.Answers.has.Goals as goal

pub returns-then-eq : goal.returns-then-eq
returns-then-eq g c =
    let found = c.in-Some.ensures.lookup in
    c.if-eq.true
    ∙ sym (is_there c.args.self.now.list.items c.args.at c.in-Some.answer.now c.args.path.now
    (subst (λ l. c.args.at < length l) c.as_slice.ensures.value found.3.0)
    (subst (λ l. c.in-Some.answer.now ≡ get_or l c.args.at c.in-Some.answer.now) c.as_slice.ensures.value found.1)
    (ap (λ p. bytes_eq p c.args.path.now) (sym c.as_str.ensures) ∙ (sym c.eq.ensures ∙ c.if-eq.true)))
