use Rattle.std.proofs.Common.{◌≡◌, ◌<◌, ◌≤◌, ℕ, Some, get_or, length, slice_get}
use Rattle.ignore_set.specs.Buckets.{IsFrontOf}
use Rattle.ignore_set.specs.Others.{IndexedText}
use Rattle.ignore_set.proofs.buckets.end_of_front.Given as goal

abbrev pub invariant-loop-i : goal.invariant-loop-i
invariant-loop-i l = record {
  past : (k : ℕ) (n : IndexedText) → l.i ≤ k → k < length l.places → slice_get l.needles (get_or l.places k 0) ≡ Some n
      → IsFrontOf l.bytes n.text → get_or l.places k 0 < l.end;
  least : l.least ≤ l.end;
  within : l.least ≤ length l.needles → l.end ≤ length l.needles;
}
