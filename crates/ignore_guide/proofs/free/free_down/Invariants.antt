use Rattle.std.proofs.Common.{List, Option}
use Rattle.ignore_dir.specs.Lists.{Placed}
use Rattle.ignore_levels.specs.Levels.{IsChain, Keeps, Passes, slots_of}
use Rattle.ignore_levels.specs.declared.list.Place.{Place}
use Rattle.ignore_guide.specs.Forest.{Owns}
use Rattle.ignore_guide.proofs.free.free_down.Given as goal

abbrev pub invariant-loop-step : goal.invariant-loop-step
invariant-loop-step l = record {
  levels : Keeps (slots_of l.levels) (slots_of l.fn.levels);
  owned : (owned : Place) → Owns (slots_of l.levels) l.floor l.next owned → Owns (slots_of l.fn.levels) l.floor l.fn.from owned;
  kept : (other : Option Place) (chain : List Placed) → IsChain (slots_of l.fn.levels) other chain
      → ((owned : Place) → Owns (slots_of l.fn.levels) l.floor l.fn.from owned → Passes (slots_of l.fn.levels) other owned → ⊥)
      → IsChain (slots_of l.levels) other chain;
}
