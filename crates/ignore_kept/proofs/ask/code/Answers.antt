-- What the rules say is told by its number.
use Rattle.std.proofs.Common.{Ok, Err}
use Rattle.ignore_base.specs.Match.{match_map}
use Rattle.ignore_kept.proofs.ask.code.Goals as goal

-- src/ask.rt:60:1
pub returns-in-Ok : goal.returns-in-Ok
returns-in-Ok c = (Ok (match_map (λ g. g.now) c.in-Ok.found), c.in-Ok.ensures.answered, c.match_code.ensures)

-- src/ask.rt:60:1
pub returns-in-Err : goal.returns-in-Err
returns-in-Err c = (Err c.in-Err.stopped, c.in-Err.ensures.refused, c.code.ensures)
