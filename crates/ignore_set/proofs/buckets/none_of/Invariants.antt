use Rattle.std.proofs.Common.{◌≡◌, length}
use Rattle.ignore_set.proofs.buckets.none_of.Given as goal

abbrev pub invariant-loop : goal.invariant-loop
invariant-loop l = length l.seen.items ≡ l.counter
