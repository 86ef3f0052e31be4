use Rattle.std.proofs.Common.{◌≡◌, ◌<◌, ◌≤◌, ℕ, List, length, get_or}
use Rattle.std.specs.Str.{IsUtf8}
use Rattle.ignore_set.specs.Index.{Fits, IsMarked, StandsUnderEnd, after, slot_at}
use Rattle.ignore_set.proofs.table.Table.under_ends.Given as goal

abbrev pub invariant-loop-size : goal.invariant-loop-size
invariant-loop-size l = record {
  found : StandsUnderEnd l.ending l.self l.is_dir l.text l.best;
  greatest : (end : List ℕ) (k : ℕ) → Fits l.ending end l.text → IsUtf8 end → k < l.size-index
      → length end ≡ get_or l.size-items k (length end) → IsMarked l.self end → after l.is_dir (slot_at l.self end) ≤ l.best;
}
