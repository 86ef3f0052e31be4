use Rattle.std.proofs.Common.{◌≡◌, map}
use Rattle.ignore_walk.specs.Keyed.{key_of}
use Rattle.ignore_walk.proofs.arrange.keyed.Given as goal

abbrev pub invariant-loop-listed : goal.invariant-loop-listed
invariant-loop-listed l = l.all.items ≡ map (key_of l.dir) l.yielded
