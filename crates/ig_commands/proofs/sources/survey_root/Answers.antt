use Rattle.std.proofs.lemmas.Result.{on_ok_weaker}
use Rattle.ig_commands.proofs.LintLemmas.{told_names}
use Rattle.ig_commands.proofs.sources.survey_root.Goals as goal

pub loop-item-preserved : goal.loop-item-preserved
loop-item-preserved g c = λ start h. c.in_ok-note_met.ensures.counted start (c.loop-item.invariant start h)

pub returns-clause-counted : goal.returns-clause-counted
returns-clause-counted g c =
    on_ok_weaker c.end_names.result
    (λ told start h. told_names start (g.E.Write.contents c.loop-item.err) (g.E.Write.contents c.end_names.new.err) c.loop-item.sources.reported
    c.loop-item.names (c.loop-item.invariant start h) told) c.end_names.ensures.told
