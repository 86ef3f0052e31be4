use Rattle.std.proofs.Common.{◌≡◌, map}
use Rattle.ignore_base.specs.Normalize.{steps}
use Rattle.ignore_base.proofs.text.normal.steps.Given as goal

-- the names are those to which the components before this one lead
abbrev pub invariant-loop-component : goal.invariant-loop-component
invariant-loop-component l =
    map (λ n. n.now) l.names.items ≡ steps (map (λ n. n.now) l.fn.names.items) (map (λ n. n.now) l.yielded)
