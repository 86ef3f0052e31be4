-- The findings are those of the rules that a handle keeps, and stand in a box.
use Rattle.std.proofs.Common.{Ok, subst, sym}
use Rattle.ignore_kept.specs.Findings.{Finds}
use Rattle.ignore_kept.specs.declared.kept.Kept.{Kept}
use Rattle.ignore_c.proofs.every.boxed.Goals as goal

pub returns-clause-found : goal.returns-clause-found
returns-clause-found c = subst (λ (k : Kept). Finds c.args.rules.now (Ok k)) (sym c.in_ok-new.ensures.ok) c.in_ok-kept.ensures
