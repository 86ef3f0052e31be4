use Rattle.std.proofs.Common.{◌≤◌, map}
use Rattle.ignore_set.proofs.ScanLemmas.{IsScanned}
use Rattle.ignore_set.proofs.scan.last_needle.Given as goal

abbrev pub invariant-loop-j : goal.invariant-loop-j
invariant-loop-j g l = record {
  scanned : IsScanned l.text l.is_dir (map g.M.HasPattern.member l.members) l.others l.left.under.now l.j l.tried l.rest l.passes;
  least : l.from ≤ l.j;
}
