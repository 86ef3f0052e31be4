-- The call that ended is the root's.
use Rattle.std.proofs.Common.{sym, ◌∙◌}
use Rattle.ignore_kept.proofs.entering.root_in.Goals as goal

pub returns-in-Err : goal.returns-in-Err
returns-in-Err c = c.in-Err.ensures.ends (sym c.is_some.ensures ∙ c.if-is_some.false)
