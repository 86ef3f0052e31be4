use Rattle.std.proofs.Common.{ℕ, ◌<◌}
use Rattle.ignore_every.specs.Scopes.{scope_of}
use Rattle.ignore_every.specs.Searches.{IsClosedStep}
use Rattle.ignore_every.proofs.places.Search.is_closed.Given as goal

-- the steps of the places before
abbrev pub invariant-loop-place : goal.invariant-loop-place
invariant-loop-place l =
    (i : ℕ) → i < l.place → (a : ℕ) → IsClosedStep (scope_of l.self) l.places i a
