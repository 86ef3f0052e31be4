-- What was told leads to a file.
use Rattle.std.proofs.Common.{string_bytes}
use Rattle.ignore_guide.proofs.AskLemmas.{leads}
use Rattle.ignore_guide.proofs.missing.next_outside.Goals as goal

pub returns-in-Ok-Some : goal.returns-in-Ok-Some
returns-in-Ok-Some c =
    leads c.args.told.now c.args.env.now string_bytes c.in-Ok-Some.field-0 c.in-Ok-Some.path _ c.unless_read.result c.in-Ok-Some.ensures.answered
    c.in-Ok-Some.field-0-is c.in-Ok-Some.path-is c.unless_read.ensures.unread
