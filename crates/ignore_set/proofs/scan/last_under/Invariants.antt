use Rattle.std.proofs.Common.{map}
use Rattle.ignore_set.proofs.ScanLemmas.{AreInVain}
use Rattle.ignore_set.proofs.scan.last_under.Given as goal

abbrev pub invariant-loop-k : goal.invariant-loop-k
invariant-loop-k g l = AreInVain l.text l.is_dir (map g.M.HasPattern.member l.members) l.under l.least l.k l.passes
