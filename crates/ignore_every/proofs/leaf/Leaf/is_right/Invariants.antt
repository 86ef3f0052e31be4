use Rattle.std.proofs.Common.{ℕ, ◌<◌, true, false}
use Rattle.ignore_every.specs.Machines.{IsLeafStep, IsLeafDecider, IsLeafTaking}
use Rattle.ignore_every.specs.Rows.{table_of}
use Rattle.ignore_every.specs.Sets.{set_of}
use Rattle.ignore_every.proofs.leaf.Leaf.is_right.Given as goal

-- what is so of the states before
abbrev pub invariant-loop-state : goal.invariant-loop-state
invariant-loop-state l = record {
  steps : (s : ℕ) → s < l.state → (a : ℕ)
      → IsLeafStep l.letters l.rule.automaton (set_of l.self.sets.items) (table_of l.self.rows.items) s a;
  files : (s : ℕ) → s < l.state
      → IsLeafDecider l.rule.index l.rule.is_only_dir l.rule.automaton (set_of l.self.sets.items) (table_of l.self.rows.items) s false;
  dirs : (s : ℕ) → s < l.state
      → IsLeafDecider l.rule.index l.rule.is_only_dir l.rule.automaton (set_of l.self.sets.items) (table_of l.self.rows.items) s true;
  takes : (s : ℕ) → s < l.state
      → IsLeafTaking l.rule.index l.rule.automaton (set_of l.self.sets.items) (table_of l.self.rows.items) s;
}
