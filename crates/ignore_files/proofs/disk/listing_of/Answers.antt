use Rattle.std.proofs.Common.{rules}
use Rattle.ignore_files.proofs.DiskLemmas.{AreReported-next}
use Rattle.ignore_files.proofs.disk.listing_of.Goals as goal

pub loop-entry-preserved : goal.loop-entry-preserved
loop-entry-preserved g c = search (rules, AreReported-next)
