use Rattle.std.proofs.Common.{length, subst, sym}
use Rattle.ig_every.specs.Notes.{AreNotes}
use Rattle.ig_every.proofs.NoteLemmas.{no_notes}
use Rattle.ig_every.proofs.linted.notes_if.Goals as goal

-- none are asked for
pub returns-clause-noted : goal.returns-clause-noted
returns-clause-noted c =
    let rules = c.args.rules.now.rules in
    subst (AreNotes c.args.how rules c.args.found.now (length rules)) (sym c.new.ensures.items) (no_notes c.args.how rules c.args.found.now (length rules))
