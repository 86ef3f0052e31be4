use Rattle.std.proofs.Common.{◌≡◌, ◌≤◌, count_by, take}
use Rattle.ignore_glob.proofs.glob.flags.Flags.count.Given as goal

abbrev pub invariant-loop-p : goal.invariant-loop-p
invariant-loop-p l = (l.count ≡ count_by (λ b. b) (take l.p l.self.all.items)) × (l.count ≤ l.p)
