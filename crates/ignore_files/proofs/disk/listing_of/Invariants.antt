use Rattle.ignore_files.specs.Machine.{AreReported}
use Rattle.ignore_files.proofs.disk.listing_of.Given as goal

abbrev pub invariant-loop-entry : goal.invariant-loop-entry
invariant-loop-entry g l = AreReported g.R.Machine l.yielded l.listed.items
