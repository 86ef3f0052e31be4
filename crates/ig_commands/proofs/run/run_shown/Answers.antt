use Rattle.ig_commands.specs.Run.{EndsBefore, Shows}
use Rattle.ig_commands.proofs.RunLemmas.{finishes}
use Rattle.ig_commands.proofs.run.run_shown.Goals as goal

pub returns-clause-runs : goal.returns-clause-runs
returns-clause-runs g c =
    finishes Shows EndsBefore (g.W.Output.fails c.show-ended.new.out) (g.W.Output.fails c.end_run.new.out) c.show-ended.result c.end_run.result
    (g.W.Output.contents c.args.out.now) (g.W.Output.contents c.show-ended.new.out) (g.W.Output.contents c.end_run.new.out)
    (g.E.Write.contents c.args.err.now) (g.E.Write.contents c.show-ended.new.err) (g.E.Write.contents c.end_run.new.err)
    c.show-ended.ensures.shows c.show-ended.ensures.ended c.show-ended.ensures.said
    c.end_run.ensures.kept c.end_run.ensures.reported c.end_run.ensures.still c.end_run.ensures.written

pub returns-clause-said : goal.returns-clause-said
returns-clause-said g c = c.end_run.ensures.said c.show-ended.ensures.said
