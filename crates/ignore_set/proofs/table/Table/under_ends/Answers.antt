use Rattle.std.proofs.Common.{length, get_or, subst, sym, ap, ◌∙◌, inl, inr, arith}
use Rattle.ignore_set.specs.Index.{StandsUnderEnd}
use Rattle.ignore_set.proofs.IndexLemmas.{any_default, under_max, split}
use Rattle.ignore_set.proofs.table.Table.under_ends.Goals as goal

pub loop-size-preserved : goal.loop-size-preserved
loop-size-preserved c = record {
  found = subst (λ n. StandsUnderEnd c.args.ending c.args.self.now c.args.is_dir c.args.text.now n) (sym c.max-best.ensures)
      (under_max c.args.ending c.args.self.now c.args.is_dir c.args.text.now c.loop-size.best c.under_end.result
      c.loop-size.invariant.found c.under_end.ensures.found);
  greatest = λ end k fits utf8 less size marked. elim (split k c.loop-size.size-index) [
    | inl before ↦ omega (arith, c.loop-size.invariant.greatest end k fits utf8 before size marked, c.max-best.ensures)
    | inr (inl same) ↦
        let items = c.deref-size-items.result.now in
        let here = size ∙ (ap (λ n. get_or items n (length end)) same
        ∙ any_default items c.loop-size.size-index (length end) 0 c.loop-size-test.true) in
        omega (arith, c.under_end.ensures.greatest end fits utf8 here marked, c.max-best.ensures)
    | inr (inr later) ↦ absurd (omega (arith, less, later))
  ];
}
