use Rattle.std.proofs.Common.{◌≡◌, ◌≤◌, drop}
use Rattle.ignore_set.specs.Others.{mask_of}
use Rattle.ignore_set.proofs.needle.mask_back.Given as goal

abbrev pub invariant-loop-at : goal.invariant-loop-at
invariant-loop-at l = record {
  mask : l.mask ≡ mask_of (drop l.at l.bytes);
  least : l.from ≤ l.at;
}
