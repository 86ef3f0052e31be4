-- Why names or a directory are refused, and what was entered.
use Rattle.std.proofs.Common.{sym, ◌∙◌, map}
use Rattle.ignore_kept.proofs.Leading.{enters, enters_unlisted}
use Rattle.ignore_kept.proofs.entering.enter_in.Goals as goal

pub returns-in-Err : goal.returns-in-Err
returns-in-Err c =
    enters_unlisted c.args.entering.parent c.args.entering.name.now c.args.entering.names.now c.args.begun.now c.in-Err.stopped
    (sym c.is_some.ensures ∙ c.if-is_some.false) c.in-Err.ensures.refused

pub returns-in-Ok-step_below : goal.returns-in-Ok-step_below
returns-in-Ok-step_below c =
    enters c.args.entering.parent c.args.entering.name.now c.args.entering.names.now c.args.begun.now c.step_below.new.begun c.in-Ok.name.now
    c.in-Ok-step_below.place c.in-Ok.ensures.value (sym c.is_some.ensures ∙ c.if-is_some.false) c.in-Ok-step_below.ensures.there
    (map (λ n. n.now) c.in-Ok-names_in.names.items, c.in-Ok-names_in.ensures.names) c.in-Ok-step_below.ensures.steps
