use Rattle.std.proofs.Common.{ℕ, ◌<◌}
use Rattle.ignore_every.specs.Machines.{IsLeafStep}
use Rattle.ignore_every.specs.Rows.{table_of}
use Rattle.ignore_every.specs.Sets.{set_of}
use Rattle.ignore_every.proofs.leaf.Leaf.are_steps_right.Given as goal

-- the steps by the letters before
abbrev pub invariant-loop-letter : goal.invariant-loop-letter
invariant-loop-letter l =
    (a : ℕ) → a < l.letter → IsLeafStep l.letters l.automaton (set_of l.self.sets.items) (table_of l.self.rows.items) l.state a
