use Rattle.std.proofs.Common.{Err, Ok, OnOk, Result}
use Rattle.ig_commands.proofs.GrowLemmas.{grows_item}
use Rattle.ig_commands.proofs.unused.find_by.Goals as goal

-- what holds at any answer holds at a success
at_ok : {A E P : Type 0} (r : Result A E) → P → OnOk r P
at_ok (Ok a) h = h
at_ok (Err e) h = tt

pub returns-in-Ok-note_used-clause-used : goal.returns-in-Ok-note_used-clause-used
returns-in-Ok-note_used-clause-used g c =
    at_ok c.report_entry.result
    (grows_item c.args.item c.in-Ok.entry c.args.found.now.used c.note_used.new.self.used c.in-Ok.is c.in-Ok-note_used.ensures.used)
