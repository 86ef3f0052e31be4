use Rattle.std.proofs.Common.{◌≡◌, None, map}
use Rattle.ignore.specs.Builder.{unset, with_roots}
use Rattle.ignore.proofs.builder.WalkBuilder.from_iter.Given as goal

-- the builder has the roots that were yielded
abbrev pub invariant-loop-path : goal.invariant-loop-path
invariant-loop-path g l =
    (l.builder.options ≡ with_roots unset (map g.P.AsStr.text l.yielded)) × (l.builder.sorter ≡ None) × (l.builder.filter ≡ None)
