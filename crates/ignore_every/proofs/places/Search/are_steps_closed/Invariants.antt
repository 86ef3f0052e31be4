use Rattle.std.proofs.Common.{ℕ, ◌<◌}
use Rattle.ignore_every.specs.Scopes.{scope_of}
use Rattle.ignore_every.specs.Searches.{IsClosedStep}
use Rattle.ignore_every.proofs.places.Search.are_steps_closed.Given as goal

-- the steps by the letters before
abbrev pub invariant-loop-letter : goal.invariant-loop-letter
invariant-loop-letter l =
    (a : ℕ) → a < l.letter → IsClosedStep (scope_of l.self) l.places l.place a
