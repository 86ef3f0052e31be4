use Rattle.std.proofs.Common.{◌≡◌}
use Rattle.ignore.specs.Builder.{with_roots}
use Rattle.ig_commands.proofs.ignored.matchers_of.Given as goal

-- the roots so far were added
abbrev pub invariant-loop-root : goal.invariant-loop-root
invariant-loop-root g l = l.walk ≡ with_roots l.fn.walk l.yielded
