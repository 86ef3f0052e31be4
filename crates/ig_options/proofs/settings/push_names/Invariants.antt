use Rattle.std.proofs.Common.{◌≡◌, drop}
use Rattle.ig_options.specs.Settings.{with_names}
use Rattle.ig_options.proofs.settings.push_names.Given as goal

-- adding what is left of the names gives what adding all of them does
abbrev pub invariant-loop-name : goal.invariant-loop-name
invariant-loop-name l =
    with_names (drop l.name-index l.name-items) l.walk ≡ with_names l.names l.fn.walk
