use Rattle.std.proofs.Common.{Bool, IfOk, subst, sym, ◌∙◌}
use Rattle.std.specs.Io.KnownBytes.{Appends}
use Rattle.ig_commands.specs.Lint.{LintsBy}
use Rattle.ig_commands.proofs.lint.lint_by.Goals as goal

-- no file is given
pub returns-then-has_none-clause-lints : goal.returns-then-has_none-clause-lints
returns-then-has_none-clause-lints g c =
    subst (λ (b : Bool). IfOk c.lint_met.result (λ status. LintsBy b g.F.Files c.args.world.now.files.now c.args.world.now.env.now c.args.how.options.now c.args.first c.args.how.json status
    (Appends (g.W.Output.contents c.args.out.now) (g.W.Output.contents c.lint_met.new.out)) (Appends (g.E.Write.contents c.args.err.now) (g.E.Write.contents c.lint_met.new.err))))
    (sym c.if-has_none.true ∙ c.has_none.ensures) c.lint_met.ensures.lints

-- some are
pub returns-clause-lints : goal.returns-clause-lints
returns-clause-lints g c =
    subst (λ (b : Bool). IfOk c.lint_given.result (λ status. LintsBy b g.F.Files c.args.world.now.files.now c.args.world.now.env.now c.args.how.options.now c.args.first c.args.how.json status
    (Appends (g.W.Output.contents c.args.out.now) (g.W.Output.contents c.lint_given.new.out)) (Appends (g.E.Write.contents c.args.err.now) (g.E.Write.contents c.lint_given.new.err))))
    (sym c.if-has_none.false ∙ c.has_none.ensures) c.lint_given.ensures.lints
