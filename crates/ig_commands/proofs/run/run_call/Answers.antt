use Rattle.std.proofs.Common.{Bool, IfErr, IfOk, subst, sym}
use Rattle.std.specs.Io.KnownBytes.{Appends}
use Rattle.ig_commands.specs.Run.{DoesBy, EndsBy, types_at_first}
use Rattle.ig_commands.proofs.run.run_call.Goals as goal

pub returns-then-call-clause-done : goal.returns-then-call-clause-done
returns-then-call-clause-done g c =
    subst (λ (b : Bool). IfOk c.why_input.result (λ status. DoesBy b g.F.Files c.args.world.now.files.now c.args.world.now.env.now c.args.call.now.options.now types_at_first c.args.call.now.task (g.R.Read.remaining c.args.input) status (Appends (g.W.Output.contents c.args.out.now) (g.W.Output.contents c.why_input.new.out)) (Appends (g.E.Write.contents c.args.err.now) (g.E.Write.contents c.why_input.new.err))))
    (sym c.if-call.true) c.why_input.ensures.answers

pub returns-then-call-clause-ended : goal.returns-then-call-clause-ended
returns-then-call-clause-ended g c =
    subst (λ (b : Bool). IfErr c.why_input.result (EndsBy b g.F.Files c.args.world.now.files.now c.args.world.now.env.now c.args.call.now.options.now types_at_first c.args.call.now.task (g.R.Read.remaining c.args.input) (Appends (g.W.Output.contents c.args.out.now) (g.W.Output.contents c.why_input.new.out)) (Appends (g.E.Write.contents c.args.err.now) (g.E.Write.contents c.why_input.new.err))))
    (sym c.if-call.true) c.why_input.ensures.ended

pub returns-clause-done : goal.returns-clause-done
returns-clause-done g c =
    subst (λ (b : Bool). IfOk c.run_task.result (λ status. DoesBy b g.F.Files c.args.world.now.files.now c.args.world.now.env.now c.args.call.now.options.now types_at_first c.args.call.now.task (g.R.Read.remaining c.args.input) status (Appends (g.W.Output.contents c.args.out.now) (g.W.Output.contents c.run_task.new.out)) (Appends (g.E.Write.contents c.args.err.now) (g.E.Write.contents c.run_task.new.err))))
    (sym c.if-call.false) c.run_task.ensures.done

pub returns-clause-ended : goal.returns-clause-ended
returns-clause-ended g c =
    subst (λ (b : Bool). IfErr c.run_task.result (EndsBy b g.F.Files c.args.world.now.files.now c.args.world.now.env.now c.args.call.now.options.now types_at_first c.args.call.now.task (g.R.Read.remaining c.args.input) (Appends (g.W.Output.contents c.args.out.now) (g.W.Output.contents c.run_task.new.out)) (Appends (g.E.Write.contents c.args.err.now) (g.E.Write.contents c.run_task.new.err))))
    (sym c.if-call.false) c.run_task.ensures.ended
