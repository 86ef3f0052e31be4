-- The guide is made of what a handle keeps, and stands in a box.
use Rattle.std.proofs.Common.{Ok, subst, sym}
use Rattle.ignore_kept.specs.Guides.{Starts}
use Rattle.ignore_kept.specs.declared.kept.Kept.{Kept}
use Rattle.ignore_c.proofs.guide.boxed.Goals as goal

pub returns-clause-started : goal.returns-clause-started
returns-clause-started c =
    subst (λ (k : Kept). Starts c.args.setup.now (Ok k)) (sym c.in_ok-new.ensures.ok) c.in_ok-kept.ensures
