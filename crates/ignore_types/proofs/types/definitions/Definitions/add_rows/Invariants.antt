-- Adding what is left of the rows gives what adding all of them does.
use Rattle.std.proofs.Common.{◌≡◌, map, drop}
use Rattle.ignore_types.specs.Defaults.{with_rows}
use Rattle.ignore_types.proofs.types.definitions.Definitions.add_rows.Given as goal

abbrev pub invariant-loop-names : goal.invariant-loop-names
invariant-loop-names l =
    with_rows (map (λ r. (map (λ n. n.now) r.0.now, map (λ g. g.now) r.1.now)) (drop l.names-index l.rows)) l.self
    ≡ with_rows (map (λ r. (map (λ n. n.now) r.0.now, map (λ g. g.now) r.1.now)) l.rows) l.initial.self
