-- What is told is the answer with its reason, or that there is none.
use Rattle.std.proofs.Common.{Ok, Err}
use Rattle.ignore_kept.proofs.Explaining.{unspoken}
use Rattle.ignore_kept.specs.Explained.{explained_in}
use Rattle.ignore_kept.specs.declared.stopped.Stopped.TheVariants.{Memory}
use Rattle.ignore_kept.proofs.explained.explain.Goals as goal

pub returns-in-Ok-told_of : goal.returns-in-Ok-told_of
returns-in-Ok-told_of c = (explained_in (Ok c.in-Ok.explanation), c.in-Ok.ensures, c.in-Ok-told_of.ensures)

pub returns-in-Err-told_of : goal.returns-in-Err-told_of
returns-in-Err-told_of c =
    (Err Memory, (unspoken _ _ _ _ c.in-Ok.explanation.answer _ c.in-Ok.ensures.0, tt), c.untold.ensures)

pub returns-in-Err : goal.returns-in-Err
returns-in-Err c = (Err c.in-Err.stopped, c.in-Err.ensures, c.untold-in-Err.ensures)
