use Rattle.std.proofs.Common.{◌≡◌, ◌<◌, ◌≤◌, ℕ, Some, get_or, length, slice_get}
use Rattle.std.specs.Str.Iter.{HasSubslice}
use Rattle.ignore_set.specs.Others.{IndexedText}
use Rattle.ignore_set.proofs.buckets.end_of_short.Given as goal

abbrev pub invariant-loop-i : goal.invariant-loop-i
invariant-loop-i l = record {
  past : (k : ℕ) (n : IndexedText) → l.i ≤ k → k < length l.places → slice_get l.needles (get_or l.places k 0) ≡ Some n
      → HasSubslice l.text n.text → get_or l.places k 0 < l.end;
  within : l.end ≤ length l.needles;
}
