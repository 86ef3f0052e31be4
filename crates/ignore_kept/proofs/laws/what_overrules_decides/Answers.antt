use Rattle.std.proofs.Common.{slice_get}
use Rattle.ignore_kept.proofs.ToldRules.{reason_told}
use Rattle.ignore_kept.proofs.laws.what_overrules_decides.Goals as goal

pub returns : goal.returns
returns c = λ rules found all index rule number other is told.
    reason_told rules found.all.items all.right (slice_get found.dead.items index) rule number other is told
