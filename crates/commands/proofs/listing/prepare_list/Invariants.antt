use Rattle.std.proofs.Common.{◌≡◌}
use Rattle.ignore.specs.Builder.{with_roots}
use Rattle.commands.proofs.listing.prepare_list.Given as goal

-- the roots so far were added
abbrev pub invariant-loop-name : goal.invariant-loop-name
invariant-loop-name l = l.walk ≡ with_roots l.fn.walk l.yielded
