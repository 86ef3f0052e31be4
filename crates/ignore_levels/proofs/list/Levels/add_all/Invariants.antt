use Rattle.std.proofs.Common.{reverse}
use Rattle.ignore_levels.specs.Levels.{IsChain, IsRising, Keeps, counting, slots_of}
use Rattle.ignore_levels.proofs.list.Levels.add_all.Given as goal

abbrev pub invariant-loop-placed : goal.invariant-loop-placed
invariant-loop-placed l = record {
  levels : Keeps (slots_of l.fn.self) (slots_of l.self);
  chain : IsRising 0 l.yielded → IsChain (slots_of l.self) l.place (counting (reverse l.yielded));
}
