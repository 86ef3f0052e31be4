use Rattle.std.proofs.Common.{◌-◌, ◌^◌, ℕ, suc}
use Rattle.ignore_glob.specs.Words.{Has, Closed}
use Rattle.ignore_glob.proofs.glob.word.Masks.close.Given as goal

-- only what is reached is there, what was there still is, and what is free leads on
abbrev pub invariant-loop-set : goal.invariant-loop-set
invariant-loop-set l = record {
  sound : (q : ℕ) → Has l.set q → Closed l.self l.fn.set q;
  kept : (q : ℕ) → Has l.fn.set q → Has l.set q;
  onward : (p : ℕ) → Has l.set p → Has l.self.free p → Has l.set (suc p);
}

abbrev pub decreases-loop-set : goal.decreases-loop-set
decreases-loop-set l = 2 ^ 64 - l.set
