use Rattle.std.proofs.Common.{◌≡◌, ◌<◌, ◌≤◌, ℕ, Some, drop, length, slice_get}
use Rattle.ignore_set.specs.Buckets.{IsFrontOf}
use Rattle.ignore_set.specs.Others.{IndexedText}
use Rattle.ignore_set.proofs.buckets.Buckets.end_of_fronts.Given as goal

abbrev pub invariant-loop-at : goal.invariant-loop-at
invariant-loop-at l = record {
  past : (at j : ℕ) (n : IndexedText) → l.at ≤ at → slice_get l.needles j ≡ Some n → 3 ≤ length n.text
      → IsFrontOf (drop at l.bytes) n.text → j < l.end;
  least : l.least ≤ l.end;
  within : l.end ≤ length l.needles;
}
