use Rattle.std.proofs.Common.{◌≡◌, List, drop}
use Rattle.ignore_levels.specs.declared.list.Slot.{Slot}
use Rattle.ignore_walk.specs.Scene.{Scene}
use Rattle.ignore_walk.specs.Shared.{AreShared, is_among, paths_of}
use Rattle.ignore_walk.proofs.above.find.Given as goal

abbrev pub invariant-loop-other : goal.invariant-loop-other
invariant-loop-other l = record {
  among : is_among l.path (paths_of l.seen) ≡ is_among l.path (paths_of (drop l.other-index l.seen));
  shared : (g : Scene) (slots : List Slot) → AreShared g slots l.seen → AreShared g slots (drop l.other-index l.seen);
}
