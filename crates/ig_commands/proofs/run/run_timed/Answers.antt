use Rattle.ig_commands.specs.Run.{DoesTold, EndsTold, types_at_first}
use Rattle.ig_commands.proofs.RunLemmas.{both_ok, finishes}
use Rattle.ig_commands.proofs.run.run_timed.Goals as goal

pub returns-clause-runs : goal.returns-clause-runs
returns-clause-runs g c =
    let f = c.args.world.now.files.now in
    let env = c.args.world.now.env.now in
    let task = c.args.call.now.task in
    let o = c.args.call.now.options.now in
    both_ok c.end_run.result _ _ c.end_run.ensures.timed (finishes (DoesTold o.no_messages g.F.Files f env o types_at_first task (g.R.Read.remaining c.args.input)) (EndsTold o.no_messages g.F.Files f env o types_at_first task (g.R.Read.remaining c.args.input)) (g.W.Output.fails c.run_told-ended.new.out) (g.W.Output.fails c.end_run.new.out) c.run_told-ended.result c.end_run.result
    (g.W.Output.contents c.args.out.now) (g.W.Output.contents c.run_told-ended.new.out) (g.W.Output.contents c.end_run.new.out)
    (g.E.Write.contents c.args.err.now) (g.E.Write.contents c.run_told-ended.new.err) (g.E.Write.contents c.end_run.new.err)
    c.run_told-ended.ensures.done c.run_told-ended.ensures.ended c.run_told-ended.ensures.said c.end_run.ensures.kept c.end_run.ensures.reported
    c.end_run.ensures.still c.end_run.ensures.written)

pub returns-clause-said : goal.returns-clause-said
returns-clause-said g c = c.end_run.ensures.said c.run_told-ended.ensures.said
