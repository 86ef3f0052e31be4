-- The rule is told by its number, its parts and its texts.
use Rattle.std.proofs.Common.{Ok, Err}
use Rattle.ignore_base.specs.Match.{match_map}
use Rattle.ignore_kept.specs.declared.stopped.Stopped.TheVariants.{Memory}
use Rattle.ignore_kept.proofs.ask.rule.Goals as goal

pub returns-in-Ok-text_of_match : goal.returns-in-Ok-text_of_match
returns-in-Ok-text_of_match c =
    (Ok (match_map (λ g. g.now) c.in-Ok.found), c.in-Ok.ensures.listed, c.match_code.ensures, c.reason_of_match.ensures, c.in-Ok-text_of_match.ensures)

pub returns-in-Err-text_of_match : goal.returns-in-Err-text_of_match
returns-in-Err-text_of_match c = (Err Memory, tt, c.untold.ensures.code, c.untold.ensures.reason, c.untold.ensures.text)

pub returns-in-Err : goal.returns-in-Err
returns-in-Err c = (Err c.in-Err.stopped, c.in-Err.ensures.refused, c.untold-in-Err.ensures.code, c.untold-in-Err.ensures.reason, c.untold-in-Err.ensures.text)
