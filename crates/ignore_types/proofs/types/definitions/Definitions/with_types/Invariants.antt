-- Adding what is left of the sources gives what adding all of them does.
use Rattle.std.proofs.Common.{◌≡◌, map, drop}
use Rattle.ignore_types.specs.Types.{with_sources}
use Rattle.ignore_types.proofs.types.definitions.Definitions.with_types.Given as goal

abbrev pub invariant-loop-source : goal.invariant-loop-source
invariant-loop-source l =
    with_sources l.name (map (λ s. s.now) (drop l.source-index l.sources)) l.definitions
    ≡ with_sources l.name (map (λ s. s.now) l.sources) l.self
