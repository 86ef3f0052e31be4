use Rattle.std.proofs.Common.{ℕ, ◌<◌}
use Rattle.ignore_every.specs.Machines.{IsPairStep}
use Rattle.ignore_every.specs.Rows.{table_of, part_of}
use Rattle.ignore_every.proofs.pair.Pair.are_steps_right.Given as goal

-- the steps by the letters before
abbrev pub invariant-loop-letter : goal.invariant-loop-letter
invariant-loop-letter l =
    (a : ℕ) → a < l.letter → IsPairStep (table_of l.left) (table_of l.right) (part_of l.self.parts.items) (table_of l.self.rows.items) l.state a
