use Rattle.std.proofs.Common.{◌≡◌, length, map, take}
use Rattle.ignore_set.specs.Index.{IsIndexOf}
use Rattle.ignore_set.proofs.index.without_buckets.Given as goal

abbrev pub invariant-loop-i : goal.invariant-loop-i
invariant-loop-i g l = record {
  index : IsIndexOf l.index (map g.M.HasPattern.member (take l.i l.members));
  none : length l.index.buckets.long.items ≡ 0;
}
