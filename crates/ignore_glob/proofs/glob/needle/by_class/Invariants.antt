use Rattle.std.proofs.Common.{drop, map, string_bytes}
use Rattle.std.specs.Arc.{arc_slice_items}
use Rattle.ignore_glob.proofs.NeedleLemmas.{Listed}
use Rattle.ignore_glob.proofs.glob.needle.by_class.Given as goal

abbrev pub invariant-loop-range : goal.invariant-loop-range
invariant-loop-range l = Listed (arc_slice_items l.listed.ranges) (drop l.range-index (arc_slice_items l.listed.ranges)) l.run (map string_bytes l.texts.items)
