use Rattle.std.proofs.Common.{◌≡◌, ◌++◌, map}
use Rattle.ignore_glob.specs.Glob.{literal}
use Rattle.ignore_glob.specs.View.{view}
use Rattle.ignore_glob.proofs.glob.exact.push_literals.Given as goal

abbrev pub invariant-loop-c : goal.invariant-loop-c
invariant-loop-c l = record {
  continues : (goal.iterator-loop-c).can_next l.c-iterator × (goal.iterator-loop-c).is_finite l.c-iterator;
  all : map view l.tokens.items ≡ map view l.initial.tokens.items ++ map literal l.yielded;
}
