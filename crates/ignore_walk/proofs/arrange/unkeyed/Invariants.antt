use Rattle.std.proofs.Common.{◌≡◌, map}
use Rattle.ignore_walk.proofs.arrange.unkeyed.Given as goal

abbrev pub invariant-loop-thing : goal.invariant-loop-thing
invariant-loop-thing l = l.listing.items ≡ map (λ p. p.listed) l.yielded
