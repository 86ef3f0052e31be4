-- What was begun, or why it wasn't, is told by its number.
use Rattle.std.proofs.Common.{Ok, Err, refl}
use Rattle.ignore_c.proofs.rules.ignore_rules_new.Goals as goal

-- src/rules.rt:48:1
pub returns-in-Ok : goal.returns-in-Ok
returns-in-Ok c = (Ok c.in-Ok.kept.value, c.in-Ok.ensures.begun, refl)

-- src/rules.rt:48:1
pub returns-in-Err : goal.returns-in-Err
returns-in-Err c = (Err c.in-Err.stopped, c.in-Err.ensures.refused, c.code.ensures)
