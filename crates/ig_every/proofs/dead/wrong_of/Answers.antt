use Rattle.std.proofs.Common.{subst}
use Rattle.ig_every.specs.Judged.{IsWrong}
use Rattle.ig_every.proofs.dead.wrong_of.Goals as goal

-- nothing is wrong with it
pub returns-in_default : goal.returns-in_default
returns-in_default c =
    subst (IsWrong c.args.rules.now c.args.index c.args.text.now) c.in_default.is (c.in_ok-wrong.ensures c.args.text.now)

-- the same doesn't stand again
pub returns-in-None : goal.returns-in-None
returns-in-None c =
    subst (IsWrong c.args.rules.now c.args.index c.args.text.now) c.in-Some.is (c.in_ok-wrong.ensures c.args.text.now)
