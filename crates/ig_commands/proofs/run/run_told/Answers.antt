use Rattle.std.proofs.Common.{Bool, IfErr, IfOk, subst, sym}
use Rattle.std.specs.Io.KnownBytes.{Appends}
use Rattle.ig_commands.specs.Run.{DoesTold, EndsTold, types_at_first}
use Rattle.ig_commands.proofs.run.run_told.Goals as goal

pub returns-then-call-clause-done : goal.returns-then-call-clause-done
returns-then-call-clause-done g c =
    subst (λ (b : Bool). IfOk c.run_untold.result (λ status. DoesTold b g.F.Files c.args.world.now.files.now c.args.world.now.env.now c.args.call.now.options.now types_at_first c.args.call.now.task (g.R.Read.remaining c.args.input) status (Appends (g.W.Output.contents c.args.out.now) (g.W.Output.contents c.run_untold.new.out)) (Appends (g.E.Write.contents c.args.err.now) (g.E.Write.contents c.run_untold.new.err))))
    (sym c.if-call.true) c.run_untold.ensures.done

pub returns-then-call-clause-ended : goal.returns-then-call-clause-ended
returns-then-call-clause-ended g c =
    subst (λ (b : Bool). IfErr c.run_untold.result (EndsTold b g.F.Files c.args.world.now.files.now c.args.world.now.env.now c.args.call.now.options.now types_at_first c.args.call.now.task (g.R.Read.remaining c.args.input) (Appends (g.W.Output.contents c.args.out.now) (g.W.Output.contents c.run_untold.new.out)) (Appends (g.E.Write.contents c.args.err.now) (g.E.Write.contents c.run_untold.new.err))))
    (sym c.if-call.true) c.run_untold.ensures.ended

pub returns-clause-done : goal.returns-clause-done
returns-clause-done g c =
    subst (λ (b : Bool). IfOk c.run_call.result (λ status. DoesTold b g.F.Files c.args.world.now.files.now c.args.world.now.env.now c.args.call.now.options.now types_at_first c.args.call.now.task (g.R.Read.remaining c.args.input) status (Appends (g.W.Output.contents c.args.out.now) (g.W.Output.contents c.run_call.new.out)) (Appends (g.E.Write.contents c.args.err.now) (g.E.Write.contents c.run_call.new.err))))
    (sym c.if-call.false) c.run_call.ensures.done

pub returns-clause-ended : goal.returns-clause-ended
returns-clause-ended g c =
    subst (λ (b : Bool). IfErr c.run_call.result (EndsTold b g.F.Files c.args.world.now.files.now c.args.world.now.env.now c.args.call.now.options.now types_at_first c.args.call.now.task (g.R.Read.remaining c.args.input) (Appends (g.W.Output.contents c.args.out.now) (g.W.Output.contents c.run_call.new.out)) (Appends (g.E.Write.contents c.args.err.now) (g.E.Write.contents c.run_call.new.err))))
    (sym c.if-call.false) c.run_call.ensures.ended
