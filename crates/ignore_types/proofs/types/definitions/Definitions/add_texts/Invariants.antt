-- Adding what is left of the globs gives what adding all of them does.
use Rattle.std.proofs.Common.{◌≡◌, map, drop}
use Rattle.ignore_types.specs.Types.{with_globs}
use Rattle.ignore_types.proofs.types.definitions.Definitions.add_texts.Given as goal

abbrev pub invariant-loop-glob : goal.invariant-loop-glob
invariant-loop-glob l =
    with_globs l.name (map (λ g. g.now) (drop l.glob-index l.globs)) l.self ≡ with_globs l.name (map (λ g. g.now) l.globs) l.initial.self
