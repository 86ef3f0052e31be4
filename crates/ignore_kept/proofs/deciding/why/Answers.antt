-- What is told is the answer with its reason, or that there is none.
use Rattle.std.proofs.Common.{Ok, Err}
use Rattle.ignore.specs.WalkWords.{query_why_of}
use Rattle.ignore_kept.proofs.Decided.{asks_full, make}
use Rattle.ignore_kept.specs.Deciding.{explanation}
use Rattle.ignore_kept.specs.Explained.{explained_in}
use Rattle.ignore_kept.specs.declared.stopped.Stopped.TheVariants.{Memory}
use Rattle.ignore_kept.proofs.deciding.why.Goals as goal

pub returns-in-Ok-told_of : goal.returns-in-Ok-told_of
returns-in-Ok-told_of c = (explained_in (Ok c.in-Ok.explanation), c.in-Ok.ensures.explained, c.in-Ok-told_of.ensures)

pub returns-in-Err-told_of : goal.returns-in-Err-told_of
returns-in-Err-told_of c =
    let e = c.in-Ok.explanation in (
      Err Memory,
      asks_full (explanation c.args.asked.name.now c.args.asked.is_dir c.args.asked.size) c.args.asked.place c.args.asked.name.now _
          (make e.answer (query_why_of e.reason)) c.in-Ok.ensures.explained,
      c.untold-in-Err-told_of.ensures,
    )
