use Rattle.ig_every.specs.Notes.{AreNotes}
use Rattle.ig_every.proofs.notes.note_rules.Given as goal

-- the rules before have their notes
abbrev pub invariant-loop-index : goal.invariant-loop-index
invariant-loop-index l = AreNotes l.judged.how l.judged.rules.now.rules l.judged.found.now l.index l.notes.items
