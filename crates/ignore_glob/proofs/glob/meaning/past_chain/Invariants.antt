use Rattle.std.proofs.Common.{◌≡◌, ◌+◌, ◌≤◌, length}
use Rattle.ignore_glob.specs.Row.{stars_before}
use Rattle.ignore_glob.specs.LexemeViews.{row_view}
use Rattle.ignore_glob.proofs.glob.meaning.past_chain.Given as goal

abbrev pub invariant-loop-more : goal.invariant-loop-more
invariant-loop-more l = record { chained : row_view l.row ≡ stars_before l.n (row_view l.rest); within : l.n + length l.rest ≤ length l.row }

abbrev pub decreases-loop-more : goal.decreases-loop-more
decreases-loop-more l = length l.rest
