use Rattle.std.proofs.Common.{ℕ, ◌<◌, true, false}
use Rattle.ignore_every.specs.Machines.{IsPairStep, IsPairDecider, IsPairTaking}
use Rattle.ignore_every.specs.Rows.{table_of, part_of}
use Rattle.ignore_every.proofs.pair.Pair.is_right.Given as goal

-- what is so of the states before
abbrev pub invariant-loop-state : goal.invariant-loop-state
invariant-loop-state l = record {
  steps : (s : ℕ) → s < l.state → (a : ℕ)
      → IsPairStep (table_of l.left) (table_of l.right) (part_of l.self.parts.items) (table_of l.self.rows.items) s a;
  files : (s : ℕ) → s < l.state
      → IsPairDecider (table_of l.left) (table_of l.right) (part_of l.self.parts.items) (table_of l.self.rows.items) s false;
  dirs : (s : ℕ) → s < l.state
      → IsPairDecider (table_of l.left) (table_of l.right) (part_of l.self.parts.items) (table_of l.self.rows.items) s true;
  takes : (s : ℕ) → s < l.state
      → IsPairTaking (table_of l.left) (table_of l.right) (part_of l.self.parts.items) (table_of l.self.rows.items) s;
}
