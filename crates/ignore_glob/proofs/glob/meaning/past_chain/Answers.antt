use Rattle.std.proofs.Common.{arith}
use Rattle.ignore_glob.specs.LexemeViews.{row_view}
use Rattle.ignore_glob.proofs.MeaningLemmas.{chain-more}
use Rattle.ignore_glob.proofs.glob.meaning.past_chain.Goals as goal

pub loop-more-preserved : goal.loop-more-preserved
loop-more-preserved c = record {
  chained =
      chain-more c.loop-more.n (row_view c.args.row.now) (row_view c.loop-more.rest.now)
      (row_view c.in-Some.more.now) c.loop-more.invariant.chained c.in-Some.ensures.some;
  within = omega (arith, c.loop-more.invariant.within, c.in-Some.ensures.shorter);
}
