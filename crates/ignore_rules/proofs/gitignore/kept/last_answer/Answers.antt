use Rattle.std.proofs.Common.{◌≡◌, ◌+◌, ◌-◌, drop, sym, subst, ◌∙◌, arith}
use Rattle.ignore_base.specs.declared.match_result.Match.TheVariants.{None}
use Rattle.std.specs.Str.{chars}
use Rattle.std.proofs.lemmas.Bool.{false≢true}
use Rattle.ignore_rules.specs.Answer.{list_answer}
use Rattle.ignore_rules.proofs.AnswerLemmas.{decided}
use Rattle.ignore_rules.proofs.IndexLemmas.{short_at}
use Rattle.ignore_rules.proofs.gitignore.kept.last_answer.Goals as goal

pub returns-then-branch-clause-answered : goal.returns-then-branch-clause-answered
returns-then-branch-clause-answered c =
    let i = c.loop-i.i - 1 in
    let next : c.loop-i.i ≡ i + 1 = omega arith in
    let none = subst (λ n. list_answer (drop n c.args.globs.now) (chars c.args.text.now) c.args.is_dir ≡ None) next c.loop-i.invariant in
    c.decision.ensures ∙ sym
    (decided c.args.globs.now (chars c.args.text.now) c.args.is_dir i _ (omega arith) c.index-globs-i.is none
    (sym c.in_ok-applies.ensures.value ∙ c.if-branch.true))

pub returns-in_err-applies-clause-succeeds : goal.returns-in_err-applies-clause-succeeds
returns-in_err-applies-clause-succeeds c short =
    absurd (false≢true (c.in_err-applies.ensures.succeeds
    (short_at c.args.globs.now (c.loop-i.i - 1) c.index-globs-i.result short (omega arith) c.index-globs-i.is)))
