use Rattle.std.proofs.Common.{subst, sym}
use Rattle.ig_every.specs.Notes.{AreNotes, none_yet}
use Rattle.ig_every.proofs.NoteLemmas.{note_more}
use Rattle.ig_every.proofs.notes.note_rules.Goals as goal

pub loop-index-init : goal.loop-index-init
loop-index-init c =
    subst (AreNotes c.args.judged.how c.args.judged.rules.now.rules c.args.judged.found.now 0) (sym c.new-notes.ensures.items) none_yet

pub loop-index-preserved : goal.loop-index-preserved
loop-index-preserved c =
    note_more c.args.judged.how c.args.judged.rules.now.rules c.args.judged.found.now c.loop-index.index c.in_ok-note.note c.loop-index.notes.items
    c.push_some.new.notes.items c.loop-index.invariant c.in_ok-note.ensures c.in_ok-push_some.ensures
