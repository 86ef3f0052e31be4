use Rattle.std.proofs.Common.{None, length}
use Rattle.std.specs.Str.{chars}
use Rattle.ignore_every.specs.Machines.{IsLastOf}
use Rattle.ignore_every.proofs.decided.last_applying.Given as goal

-- no rule from here on applies
abbrev pub invariant-loop-index : goal.invariant-loop-index
invariant-loop-index l = IsLastOf l.rules l.index (length l.rules) (chars l.path) l.is_dir None
