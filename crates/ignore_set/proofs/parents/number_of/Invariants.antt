use Rattle.std.proofs.Common.{◌≡◌, ◌<◌, drop}
use Rattle.ignore_set.specs.Parents.{number_of}
use Rattle.ignore_set.proofs.parents.number_of.Given as goal

abbrev pub invariant-loop-at : goal.invariant-loop-at
invariant-loop-at l = record {
  value : l.number ≡ number_of (drop l.at l.text);
  within : l.number < 65536;
}
