use Rattle.std.proofs.Common.{[], ◌∷◌, add-one, refl, sym, ◌∙◌}
use Rattle.std.proofs.Output.{has_written_append, has_written_of_eq}
use Rattle.ignore_base.proofs.Joined.{joined_more, joined_all}
use Rattle.ignore_base.proofs.Texts.{text_of-Partial, text_of-Loop}
use Rattle.ignore_base.proofs.error.display.ErrorDisplay.+fmt.Goals as goal

pub loop-err-preserved : goal.loop-err-preserved
unfolding lib.Utf8.encode
loop-err-preserved g t c = record {
  separator = rw add-one;
  written = λ p.
      let before = c.loop-err.invariant.written p in
      has_written_of_eq _ _ _ _ _ (rw (add-one, c.loop-err.invariant.separator)
      (sym (joined_more [] c.deref-err-items.result.now c.loop-err.err-index c.err-item.result c.loop-err-test.true c.err-item.is)))
      (has_written_append _ _ _ _ _ _ before (c.in_ok-write-in-Partial.ensures.writes before.plain refl));
  text = (10 ∷ [], (refl, refl));
}

pub returns-after-loop-err-clause-writes : goal.returns-after-loop-err-clause-writes
returns-after-loop-err-clause-writes g t c = λ p ok.
    has_written_of_eq _ _ _ _ _ (joined_all c.deref-err-items.result.now c.loop-err.err-index c.loop-err-test.false
    ∙ rw (c.in-Partial.is, c.deref-err-items.ensures.value)
    (sym (text_of-Partial c.in-Partial.errors))) (c.loop-err.invariant.written p)

pub returns-in-Loop-clause-writes : goal.returns-in-Loop-clause-writes
returns-in-Loop-clause-writes g t c =
    λ p ok. has_written_of_eq _ _ _ _ _ (rw c.in-Loop.is (sym (text_of-Loop c.in-Loop.ancestor c.in-Loop.child)))
    (c.write-in-Loop.ensures.writes p ok)
