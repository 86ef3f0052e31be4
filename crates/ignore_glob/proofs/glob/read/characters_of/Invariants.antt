use Rattle.std.proofs.Common.{◌≡◌}
use Rattle.ignore_glob.proofs.glob.read.characters_of.Given as goal

abbrev pub invariant-loop-c : goal.invariant-loop-c
invariant-loop-c l = record {
  continues : (goal.iterator-loop-c).can_next l.c-iterator × (goal.iterator-loop-c).is_finite l.c-iterator;
  all : l.all.items ≡ l.yielded;
}
