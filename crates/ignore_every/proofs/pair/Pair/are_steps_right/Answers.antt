use Rattle.std.proofs.Common.{◌≡◌, None, arith, below_more, inl, inr}
use Rattle.std.proofs.lemmas.Bool.{cases_lt}
use Rattle.ignore_every.specs.Rows.{next_of}
use Rattle.ignore_every.proofs.pair.Pair.are_steps_right.Goals as goal

pub loop-letter-preserved : goal.loop-letter-preserved
loop-letter-preserved c =
    below_more _ _ c.loop-letter.invariant (c.is_step_right.ensures c.if-not-is_step_right.false)

pub returns : goal.returns
returns c = λ right a. elim (cases_lt a c.loop-letter.letter) [
  | inl h ↦ c.loop-letter.invariant a h
  | inr h ↦ λ t is. (let none : next_of c.deref.result.now c.args.state a ≡ None = c.row_length-letters.ensures a (omega (arith, h, c.loop-letter-test.false)) in absurd (cc (none, is, c.deref.ensures.value)))
]
