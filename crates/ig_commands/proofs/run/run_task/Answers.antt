use Rattle.ig_options.specs.declared.words.Task.TheVariants as command
use Rattle.commands.proofs.LineLemmas.{appends_nothing}
use Rattle.std.specs.Io.KnownBytes.{Appends}
use Rattle.ig_commands.specs.Run.{types_at_first}
use Rattle.ig_commands.specs.declared.stop.Stop.TheVariants.{Memory}
use Rattle.ig_commands.proofs.RunLemmas.{does_as, ends_as, ends_in_any_way, ends_none}
use Rattle.ig_commands.proofs.run.run_task.Goals as goal

-- out of memory for the types, no command begins
pub returns-in_default-clause-ended : goal.returns-in_default-clause-ended
returns-in_default-clause-ended g c =
    let out = g.W.Output.contents c.args.out.now in
    let err = g.E.Write.contents c.args.err.now in
    ends_none g.F.Files c.args.world.now.files.now c.args.world.now.env.now c.args.call.now.options.now types_at_first c.args.call.now.task (g.R.Read.remaining c.args.input) (Appends out out)
    (Appends err err) Memory (appends_nothing out, appends_nothing err)

pub returns-in-List-clause-done : goal.returns-in-List-clause-done
returns-in-List-clause-done g c =
    does_as g.F.Files c.args.world.now.files.now c.args.world.now.env.now c.args.call.now.options.now c.in-Ok.first types_at_first command.List c.args.call.now.task
    (g.R.Read.remaining c.args.input) c.list.result (Appends (g.W.Output.contents c.args.out.now) (g.W.Output.contents c.list.new.out))
    (Appends (g.E.Write.contents c.args.err.now) (g.E.Write.contents c.list.new.err)) c.in-Ok.ensures.value c.in-List.is c.list.ensures.lists

pub returns-in-List-clause-ended : goal.returns-in-List-clause-ended
returns-in-List-clause-ended g c =
    ends_as g.F.Files c.args.world.now.files.now c.args.world.now.env.now c.args.call.now.options.now c.in-Ok.first types_at_first command.List c.args.call.now.task
    (g.R.Read.remaining c.args.input) c.list.result (Appends (g.W.Output.contents c.args.out.now) (g.W.Output.contents c.list.new.out))
    (Appends (g.E.Write.contents c.args.err.now) (g.E.Write.contents c.list.new.err)) c.in-Ok.ensures.value c.in-List.is c.list.ensures.ended

pub returns-in-Ignored-clause-done : goal.returns-in-Ignored-clause-done
returns-in-Ignored-clause-done g c =
    does_as g.F.Files c.args.world.now.files.now c.args.world.now.env.now c.args.call.now.options.now c.in-Ok.first types_at_first command.Ignored c.args.call.now.task
    (g.R.Read.remaining c.args.input) c.list_ignored.result (Appends (g.W.Output.contents c.args.out.now) (g.W.Output.contents c.list_ignored.new.out))
    (Appends (g.E.Write.contents c.args.err.now) (g.E.Write.contents c.list_ignored.new.err)) c.in-Ok.ensures.value c.in-Ignored.is c.list_ignored.ensures.lists

pub returns-in-Ignored-clause-ended : goal.returns-in-Ignored-clause-ended
returns-in-Ignored-clause-ended g c =
    ends_as g.F.Files c.args.world.now.files.now c.args.world.now.env.now c.args.call.now.options.now c.in-Ok.first types_at_first command.Ignored c.args.call.now.task
    (g.R.Read.remaining c.args.input) c.list_ignored.result (Appends (g.W.Output.contents c.args.out.now) (g.W.Output.contents c.list_ignored.new.out))
    (Appends (g.E.Write.contents c.args.err.now) (g.E.Write.contents c.list_ignored.new.err)) c.in-Ok.ensures.value c.in-Ignored.is c.list_ignored.ensures.ended

pub returns-in-Why-clause-done : goal.returns-in-Why-clause-done
returns-in-Why-clause-done g c =
    does_as g.F.Files c.args.world.now.files.now c.args.world.now.env.now c.args.call.now.options.now c.in-Ok.first types_at_first command.Why c.args.call.now.task
    (g.R.Read.remaining c.args.input) c.why.result (Appends (g.W.Output.contents c.args.out.now) (g.W.Output.contents c.why.new.out))
    (Appends (g.E.Write.contents c.args.err.now) (g.E.Write.contents c.why.new.err)) c.in-Ok.ensures.value c.in-Why.is c.why.ensures.answers

pub returns-in-Why-clause-ended : goal.returns-in-Why-clause-ended
returns-in-Why-clause-ended g c =
    ends_as g.F.Files c.args.world.now.files.now c.args.world.now.env.now c.args.call.now.options.now c.in-Ok.first types_at_first command.Why c.args.call.now.task
    (g.R.Read.remaining c.args.input) c.why.result (Appends (g.W.Output.contents c.args.out.now) (g.W.Output.contents c.why.new.out))
    (Appends (g.E.Write.contents c.args.err.now) (g.E.Write.contents c.why.new.err)) c.in-Ok.ensures.value c.in-Why.is c.why.ensures.ended

pub returns-in-Unused-clause-done : goal.returns-in-Unused-clause-done
returns-in-Unused-clause-done g c =
    does_as g.F.Files c.args.world.now.files.now c.args.world.now.env.now c.args.call.now.options.now c.in-Ok.first types_at_first command.Unused c.args.call.now.task
    (g.R.Read.remaining c.args.input) c.list_unused.result (Appends (g.W.Output.contents c.args.out.now) (g.W.Output.contents c.list_unused.new.out))
    (Appends (g.E.Write.contents c.args.err.now) (g.E.Write.contents c.list_unused.new.err)) c.in-Ok.ensures.value c.in-Unused.is c.list_unused.ensures.lists

pub returns-in-Unused-clause-ended : goal.returns-in-Unused-clause-ended
returns-in-Unused-clause-ended g c =
    ends_as g.F.Files c.args.world.now.files.now c.args.world.now.env.now c.args.call.now.options.now c.in-Ok.first types_at_first command.Unused c.args.call.now.task
    (g.R.Read.remaining c.args.input) c.list_unused.result (Appends (g.W.Output.contents c.args.out.now) (g.W.Output.contents c.list_unused.new.out))
    (Appends (g.E.Write.contents c.args.err.now) (g.E.Write.contents c.list_unused.new.err)) c.in-Ok.ensures.value c.in-Unused.is c.list_unused.ensures.ended

pub returns-in-Types-clause-done : goal.returns-in-Types-clause-done
returns-in-Types-clause-done g c =
    does_as g.F.Files c.args.world.now.files.now c.args.world.now.env.now c.args.call.now.options.now c.in-Ok.first types_at_first command.Types c.args.call.now.task
    (g.R.Read.remaining c.args.input) c.list_types.result (Appends (g.W.Output.contents c.args.out.now) (g.W.Output.contents c.list_types.new.out))
    (Appends (g.E.Write.contents c.args.err.now) (g.E.Write.contents c.list_types.new.err)) c.in-Ok.ensures.value c.in-Types.is c.list_types.ensures.lists

pub returns-in-Types-clause-ended : goal.returns-in-Types-clause-ended
returns-in-Types-clause-ended g c =
    ends_as g.F.Files c.args.world.now.files.now c.args.world.now.env.now c.args.call.now.options.now c.in-Ok.first types_at_first command.Types c.args.call.now.task
    (g.R.Read.remaining c.args.input) c.list_types.result (Appends (g.W.Output.contents c.args.out.now) (g.W.Output.contents c.list_types.new.out))
    (Appends (g.E.Write.contents c.args.err.now) (g.E.Write.contents c.list_types.new.err)) c.in-Ok.ensures.value c.in-Types.is c.list_types.ensures.ended

pub returns-in-Same-clause-done : goal.returns-in-Same-clause-done
returns-in-Same-clause-done g c =
    does_as g.F.Files c.args.world.now.files.now c.args.world.now.env.now c.args.call.now.options.now c.in-Ok.first types_at_first (command.Same c.in-Same.most) c.args.call.now.task
    (g.R.Read.remaining c.args.input) c.same.result (Appends (g.W.Output.contents c.args.out.now) (g.W.Output.contents c.same.new.out))
    (Appends (g.E.Write.contents c.args.err.now) (g.E.Write.contents c.same.new.err)) c.in-Ok.ensures.value c.in-Same.is c.same.ensures.compares

pub returns-in-Same-clause-ended : goal.returns-in-Same-clause-ended
returns-in-Same-clause-ended g c =
    ends_as g.F.Files c.args.world.now.files.now c.args.world.now.env.now c.args.call.now.options.now c.in-Ok.first types_at_first (command.Same c.in-Same.most) c.args.call.now.task
    (g.R.Read.remaining c.args.input) c.same.result (Appends (g.W.Output.contents c.args.out.now) (g.W.Output.contents c.same.new.out))
    (Appends (g.E.Write.contents c.args.err.now) (g.E.Write.contents c.same.new.err)) c.in-Ok.ensures.value c.in-Same.is c.same.ensures.ended

pub returns-in-Lint-clause-done : goal.returns-in-Lint-clause-done
returns-in-Lint-clause-done g c =
    does_as g.F.Files c.args.world.now.files.now c.args.world.now.env.now c.args.call.now.options.now c.in-Ok.first types_at_first command.Lint c.args.call.now.task
    (g.R.Read.remaining c.args.input) c.lint_files.result (Appends (g.W.Output.contents c.args.out.now) (g.W.Output.contents c.lint_files.new.out))
    (Appends (g.E.Write.contents c.args.err.now) (g.E.Write.contents c.lint_files.new.err)) c.in-Ok.ensures.value c.in-Lint.is c.lint_files.ensures.lints

pub returns-in-Lint-clause-ended : goal.returns-in-Lint-clause-ended
returns-in-Lint-clause-ended g c =
    ends_as g.F.Files c.args.world.now.files.now c.args.world.now.env.now c.args.call.now.options.now c.in-Ok.first types_at_first command.Lint c.args.call.now.task
    (g.R.Read.remaining c.args.input) c.lint_files.result (Appends (g.W.Output.contents c.args.out.now) (g.W.Output.contents c.lint_files.new.out))
    (Appends (g.E.Write.contents c.args.err.now) (g.E.Write.contents c.lint_files.new.err)) c.in-Ok.ensures.value c.in-Lint.is (ends_in_any_way c.lint_files.result)

pub returns-in-LintJson-clause-done : goal.returns-in-LintJson-clause-done
returns-in-LintJson-clause-done g c =
    does_as g.F.Files c.args.world.now.files.now c.args.world.now.env.now c.args.call.now.options.now c.in-Ok.first types_at_first command.LintJson c.args.call.now.task
    (g.R.Read.remaining c.args.input) c.lint_json.result (Appends (g.W.Output.contents c.args.out.now) (g.W.Output.contents c.lint_json.new.out))
    (Appends (g.E.Write.contents c.args.err.now) (g.E.Write.contents c.lint_json.new.err)) c.in-Ok.ensures.value c.in-LintJson.is c.lint_json.ensures.lints

pub returns-in-LintJson-clause-ended : goal.returns-in-LintJson-clause-ended
returns-in-LintJson-clause-ended g c =
    ends_as g.F.Files c.args.world.now.files.now c.args.world.now.env.now c.args.call.now.options.now c.in-Ok.first types_at_first command.LintJson c.args.call.now.task
    (g.R.Read.remaining c.args.input) c.lint_json.result (Appends (g.W.Output.contents c.args.out.now) (g.W.Output.contents c.lint_json.new.out))
    (Appends (g.E.Write.contents c.args.err.now) (g.E.Write.contents c.lint_json.new.err)) c.in-Ok.ensures.value c.in-LintJson.is (ends_in_any_way c.lint_json.result)
