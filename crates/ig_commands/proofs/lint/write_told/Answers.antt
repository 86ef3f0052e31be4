use Rattle.std.proofs.Common.{◌++◌, None, Option, Some, refl, subst, sym}
use Rattle.commands.proofs.LineLemmas.{appends_nothing}
use Rattle.ig_every.specs.declared.diagnostic.Diagnostic.{Diagnostic}
use Rattle.ig_commands.specs.Lint.{IsTold}
use Rattle.ig_commands.proofs.lint.write_told.Goals as goal

-- nothing is wrong with it
pub returns-in_default-clause-writes : goal.returns-in_default-clause-writes
returns-in_default-clause-writes g c =
    (None, subst (λ (j : Option Diagnostic). IsTold (c.args.all.now.sources.now.outside.items ++ c.args.all.now.sources.now.below.items) c.args.path.now j None) (sym c.in_default.is) refl, refl, appends_nothing (g.W.Output.contents c.args.out.now))

-- another file mends it
pub returns-then-mended-clause-writes : goal.returns-then-mended-clause-writes
returns-then-mended-clause-writes g c = (
  None,
  subst (λ (j : Option Diagnostic). IsTold (c.args.all.now.sources.now.outside.items ++ c.args.all.now.sources.now.below.items) c.args.path.now j None) (sym c.in-Some.is) (c.in-Ok.ensures c.if-mended.true),
  refl,
  appends_nothing (g.W.Output.contents c.args.out.now),
)

pub returns-clause-writes : goal.returns-clause-writes
returns-clause-writes g c =
    let d = c.in-Some.diagnostic in
    (Some d, subst (λ (j : Option Diagnostic). IsTold (c.args.all.now.sources.now.outside.items ++ c.args.all.now.sources.now.below.items) c.args.path.now j (Some d)) (sym c.in-Some.is) refl, refl, c.in_ok-write_found.ensures.writes)
