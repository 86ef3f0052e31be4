use Rattle.std.proofs.Common.{◌≡◌, ◌≤◌, ℕ, length}
use Rattle.ignore_glob.specs.Flags.{IsFlagged}
use Rattle.ignore_glob.proofs.glob.flags.Flags.clear.Given as goal

abbrev pub invariant-loop-p : goal.invariant-loop-p
invariant-loop-p l = record {
  len : length l.self.all.items ≡ length l.initial.self.all.items;
  ends : (l.self.low ≡ l.initial.self.low) × (l.self.high ≡ l.initial.self.high);
  flagged : (q : ℕ) → IsFlagged l.self.all.items q → l.p ≤ q;
}
