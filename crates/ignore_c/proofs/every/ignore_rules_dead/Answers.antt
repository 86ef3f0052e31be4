-- What is found, or why nothing is, is told by its number.
use Rattle.std.proofs.Common.{Ok, Err, refl}
use Rattle.ignore_c.proofs.every.ignore_rules_dead.Goals as goal

pub returns-in-Ok-clause-found : goal.returns-in-Ok-clause-found
returns-in-Ok-clause-found c = (Ok c.in-Ok.kept.value, c.in-Ok.ensures.1.0, refl)

pub returns-in-Err-clause-found : goal.returns-in-Err-clause-found
returns-in-Err-clause-found c = (Err c.in-Err.stopped, c.in-Err.ensures.1.1, c.code.ensures)
