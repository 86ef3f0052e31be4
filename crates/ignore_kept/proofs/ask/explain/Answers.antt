-- What the rules say is told by its number, and by the rule that decided.
use Rattle.std.proofs.Common.{Ok, Err}
use Rattle.ignore_base.specs.Match.{match_map}
use Rattle.ignore_kept.specs.declared.stopped.Stopped.TheVariants.{Memory}
use Rattle.ignore_kept.proofs.ask.explain.Goals as goal

-- src/ask.rt:70:1
pub returns-in-Ok-text_of_match : goal.returns-in-Ok-text_of_match
returns-in-Ok-text_of_match c =
    (Ok (match_map (λ g. g.now) c.in-Ok.found), c.in-Ok.ensures.answered, c.match_code.ensures, c.reason_of_match.ensures, c.in-Ok-text_of_match.ensures)

-- src/ask.rt:70:1
pub returns-in-Err-text_of_match : goal.returns-in-Err-text_of_match
returns-in-Err-text_of_match c = (Err Memory, tt, c.untold.ensures.code, c.untold.ensures.reason, c.untold.ensures.text)

-- src/ask.rt:70:1
pub returns-in-Err : goal.returns-in-Err
returns-in-Err c = (Err c.in-Err.stopped, c.in-Err.ensures.refused, c.untold-in-Err.ensures.code, c.untold-in-Err.ensures.reason, c.untold-in-Err.ensures.text)
