use Rattle.std.proofs.Common.{◌≡◌}
use Rattle.ignore_set.specs.Sets.{members}
use Rattle.ignore_set.proofs.entry.entries_of.Given as goal

abbrev pub invariant-loop-pattern : goal.invariant-loop-pattern
invariant-loop-pattern l = l.entries.items ≡ members l.yielded
