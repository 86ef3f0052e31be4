-- What is left of the names decides for all of them.
use Rattle.std.proofs.Common.{◌≡◌, map, drop}
use Rattle.ignore_types.specs.Types.{has_all}
use Rattle.ignore_types.proofs.types.definitions.Definitions.has_all.Given as goal

abbrev pub invariant-loop-name : goal.invariant-loop-name
invariant-loop-name l = has_all (map (λ n. n.now) (drop l.name-index l.names)) l.self ≡ has_all (map (λ n. n.now) l.names) l.self
