use Rattle.std.proofs.Common.{ℕ, ◌<◌}
use Rattle.ignore_every.specs.Agreement.{NumberAgrees}
use Rattle.ignore_every.specs.Scopes.{scope_of}
use Rattle.ignore_every.proofs.places.Search.agrees_before.Given as goal

-- so it is at the places before
abbrev pub invariant-loop-number : goal.invariant-loop-number
invariant-loop-number l = (i : ℕ) → i < l.number → NumberAgrees l.counted (scope_of l.self) l.places l.bound i
