-- The findings are those of what the handle keeps.
use Rattle.std.proofs.Common.{◌≡◌, IfOk, Ok, arith, rules, subst}
use Rattle.std.proofs.lemmas.Grind.{common_steps}
use Rattle.ignore_kept.specs.Findings.{Finds}
use Rattle.ignore_kept.specs.declared.kept.Kept.{Kept}
use Rattle.ignore_c.proofs.every.found.Goals as goal

pub returns-clause-found : goal.returns-clause-found
returns-clause-found c =
    let same : c.deref.result.now ≡ c.args.rules.value = first_of (search rules, grind (arith, common_steps)) in
    subst (λ (k : Kept). IfOk c.boxed-made.result (λ kept. Finds k (Ok kept.value))) same c.boxed-made.ensures.found
