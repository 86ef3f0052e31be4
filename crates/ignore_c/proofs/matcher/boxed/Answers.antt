-- The matcher is made of what two handles keep, and stands in a box.
use Rattle.std.proofs.Common.{Ok, subst, sym}
use Rattle.ignore_kept.specs.Matching.{Builds}
use Rattle.ignore_kept.specs.declared.kept.Kept.{Kept}
use Rattle.ignore_c.proofs.matcher.boxed.Goals as goal

pub returns-clause-built : goal.returns-clause-built
returns-clause-built c =
    subst (λ (k : Kept). Builds c.args.setup.now c.args.files.now (Ok k)) (sym c.in_ok-new.ensures.ok) c.in_ok-kept.ensures
