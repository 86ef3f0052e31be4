-- The dead rules are among what is found.
use Rattle.std.proofs.Common.{◌≡◌, ℕ, List, length, refl, subst}
use Rattle.ignore_every.specs.declared.findings.Finding.{Finding}
use Rattle.ignore_kept.proofs.DeadRules.{are_findings}
use Rattle.ignore_kept.specs.Findings.{AreDeadBelow}
use Rattle.ignore_kept.proofs.findings.found_of.Goals as goal

pub returns-clause-found : goal.returns-clause-found
returns-clause-found c =
    let all = c.in_ok-analysis.analysis.findings in
    let dead = c.in_ok-dead.dead in
    are_findings c.args.rules.now.rules (record { all = all; dead = dead }) all.items dead.items c.in_ok-analysis.ensures
    (subst (λ (l : List Finding). AreDeadBelow l (length l) dead.items) c.deref.ensures.value c.in_ok-dead.ensures) refl refl
