use Rattle.std.proofs.Common.{◌≡◌, length}
use Rattle.ignore_set.proofs.buckets.Buckets.empty.Given as goal

abbrev pub invariant-loop : goal.invariant-loop
invariant-loop l = length l.long.items ≡ l.counter
