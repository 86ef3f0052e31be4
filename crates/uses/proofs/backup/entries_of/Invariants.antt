use Rattle.std.proofs.Common.{◌≡◌, Ok, map}
use Rattle.ignore.specs.WalkWords.{item_of}
use Rattle.uses.proofs.backup.entries_of.Given as goal

-- the items so far are these entries
abbrev pub invariant-loop-item : goal.invariant-loop-item
invariant-loop-item l = map item_of l.yielded ≡ map (λ e. item_of (Ok e)) l.entries.items
