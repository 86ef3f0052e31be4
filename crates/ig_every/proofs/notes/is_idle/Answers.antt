use Rattle.std.proofs.Common.{subst}
use Rattle.std.proofs.lemmas.Result.{IfOk-weaker}
use Rattle.ignore_every.specs.Verdicts.{SaySame}
use Rattle.ignore_every.specs.declared.said.Counted.TheVariants.{Ignored}
use Rattle.ignore_rules.specs.Rules.{Ruleset}
use Rattle.ig_every.proofs.notes.is_idle.Goals as goal

-- the others say the same
pub returns-in-Ok : goal.returns-in-Ok
returns-in-Ok c =
    let made = c.in-Ok.ensures in
    IfOk-weaker c.are_same.result _ _
    (λ same says yes. record {
      rest = made.0;
      read = made.1;
      same = subst (λ (g : Ruleset). SaySame Ignored g.rules c.args.judged.rules.now.rules) made.2 (says yes);
    }) c.are_same.ensures
