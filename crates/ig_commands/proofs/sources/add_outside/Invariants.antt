use Rattle.std.proofs.Common.{◌≡◌}
use Rattle.ig_commands.proofs.sources.add_outside.Given as goal

-- the count stays
abbrev pub invariant-loop-path : goal.invariant-loop-path
invariant-loop-path g l = l.sources.reported ≡ l.fn.sources.reported
