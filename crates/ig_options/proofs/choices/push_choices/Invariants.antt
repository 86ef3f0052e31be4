use Rattle.std.proofs.Common.{◌≡◌, drop}
use Rattle.ig_options.specs.Choices.{with_all_chosen}
use Rattle.ig_options.proofs.choices.push_choices.Given as goal

-- choosing what is left of the names gives what choosing all of them does
abbrev pub invariant-loop-name : goal.invariant-loop-name
invariant-loop-name l =
    with_all_chosen l.negated (drop l.name-index l.name-items) l.builder ≡ with_all_chosen l.negated l.names l.fn.builder
