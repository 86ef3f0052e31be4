use Rattle.ignore_every.specs.Letters.{AreAllIn}
use Rattle.ignore_every.proofs.letters.are_all_in.Given as goal

-- each character below is in some interval
abbrev pub invariant-loop-interval : goal.invariant-loop-interval
invariant-loop-interval l = AreAllIn l.intervals l.below
