use Rattle.std.proofs.Common.{◌≡◌, ◌+◌, ◌-◌, false, drop, sym, ap, subst, ◌∙◌, arith, rules}
use Rattle.std.specs.Str.{chars}
use Rattle.std.proofs.lemmas.Bool.{false≢true}
use Rattle.ignore_base.specs.Match.{is_none}
use Rattle.ignore_base.specs.declared.match_result.Match.TheVariants.{None}
use Rattle.ignore_types.specs.TypeMatch.{choices_answer}
use Rattle.ignore_types.proofs.TypeAnswers.{decided}
use Rattle.ignore_types.proofs.types.chosen.last_choice.Goals as goal

pub returns-then-not-is_none : goal.returns-then-not-is_none
returns-then-not-is_none c =
    let i = c.loop-i.i - 1 in
    let next : c.loop-i.i ≡ i + 1 = omega arith in
    let none = subst (λ n. choices_answer (drop n c.args.choices.now) (chars c.args.name.now) ≡ None) next c.loop-i.invariant in
    let some : is_none c.in_ok-answer.answer ≡ false = search rules in
    c.in_ok-answer.ensures
    ∙ sym (decided c.args.choices.now (chars c.args.name.now) i c.index-choices-i.result (omega arith) c.index-choices-i.is none
    (λ e. false≢true (sym some ∙ ap is_none (c.in_ok-answer.ensures ∙ e))))
