-- Adding what is left of the names gives what adding all of them does.
use Rattle.std.proofs.Common.{◌≡◌, map, drop}
use Rattle.ignore_types.specs.Types.{with_names}
use Rattle.ignore_types.proofs.types.definitions.Definitions.add_names.Given as goal

abbrev pub invariant-loop-name : goal.invariant-loop-name
invariant-loop-name l =
    with_names (map (λ n. n.now) (drop l.name-index l.names)) (map (λ g. g.now) l.globs) l.self
    ≡ with_names (map (λ n. n.now) l.names) (map (λ g. g.now) l.globs) l.initial.self
