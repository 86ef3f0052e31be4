-- The types so far are selected.
use Rattle.std.proofs.Common.{◌≡◌, map, take}
use Rattle.ignore_types.proofs.types.selection.selections_of.Given as goal

abbrev pub invariant-loop-definition : goal.invariant-loop-definition
invariant-loop-definition l = l.all.items ≡ map (λ d. record { name = d.name; negated = l.negated }) (take l.definition-index l.types)
