use Rattle.std.proofs.Common.{reverse}
use Rattle.ignore_levels.specs.Levels.{IsChain, IsRising, Keeps, counting, slots_of}
use Rattle.ignore_guide.specs.Settle.{AreFresh}
use Rattle.ignore_guide.proofs.settle.above.Given as goal

abbrev pub invariant-loop-placed : goal.invariant-loop-placed
invariant-loop-placed l = record {
  levels : Keeps (slots_of l.fn.levels) (slots_of l.levels);
  chain : IsRising 0 l.yielded → IsChain (slots_of l.levels) l.place (counting (reverse l.yielded));
  fresh : IsRising 0 l.yielded → AreFresh (slots_of l.fn.levels) (slots_of l.levels) l.place;
}
