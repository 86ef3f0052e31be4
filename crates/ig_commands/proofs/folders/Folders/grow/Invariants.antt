use Rattle.std.proofs.Common.{◌≡◌, ◌+◌, ◌-◌, ℕ, length}
use Rattle.ig_commands.specs.Folders.{entry_in}
use Rattle.ig_commands.proofs.folders.Folders.grow.Given as goal

-- what is kept for each depth is as before
abbrev pub invariant-loop-self : goal.invariant-loop-self
invariant-loop-self l = (depth : ℕ) → entry_in l.self depth ≡ entry_in l.fn.self depth

abbrev pub decreases-loop-self : goal.decreases-loop-self
decreases-loop-self l = l.depth + 1 - length l.self.entries.items
