use Rattle.std.proofs.Common.{◌≡◌, ◌++◌, List, ℕ, length}
use Rattle.ig_options.specs.QuoteSteps.{Closes}
use Rattle.ig_options.proofs.quotes.closed.Given as goal

-- the bytes so far, and what the rest stands for, are what the text stands for
abbrev pub invariant-loop-byte : goal.invariant-loop-byte
invariant-loop-byte l = record {
  so : (tail : List ℕ) → Closes l.rest tail → Closes l.text (l.bytes.items ++ tail);
  only : (all : List ℕ) → Closes l.text all → (tail : List ℕ) × (all ≡ l.bytes.items ++ tail) × Closes l.rest tail;
}

abbrev pub decreases-loop-byte : goal.decreases-loop-byte
decreases-loop-byte l = length l.rest
