use Rattle.std.proofs.Common.{take}
use Rattle.ignore_set.specs.Buckets.{AreBucketsOf}
use Rattle.ignore_set.proofs.buckets.Buckets.of.Given as goal

abbrev pub invariant-loop-place : goal.invariant-loop-place
invariant-loop-place l = AreBucketsOf l.buckets (take l.place l.needles)
