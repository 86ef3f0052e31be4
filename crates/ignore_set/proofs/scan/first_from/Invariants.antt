use Rattle.std.proofs.Common.{◌≡◌, ◌<◌, ◌≤◌, ℕ, Some, length, slice_get}
use Rattle.ignore_set.specs.Others.{IndexedText}
use Rattle.ignore_set.proofs.scan.first_from.Given as goal

abbrev pub invariant-loop-round : goal.invariant-loop-round
invariant-loop-round l = record {
  below : (k : ℕ) (n : IndexedText) → k < l.low → slice_get l.others k ≡ Some n → n.index < l.index;
  ordered : l.low ≤ l.high;
  within : l.high ≤ length l.others;
}
