use Rattle.std.proofs.Common.{slice_get}
use Rattle.ignore_kept.proofs.ToldRules.{dead_right}
use Rattle.ignore_kept.proofs.laws.what_is_told_is_right.Goals as goal

pub returns : goal.returns
returns c = λ rules found all index dead text told.
    dead_right rules found.all.items all.right (slice_get found.dead.items index) dead text
    (λ rule is. (all.dead.each index rule is).1) told
