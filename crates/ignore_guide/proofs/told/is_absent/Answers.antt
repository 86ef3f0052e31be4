use Rattle.ignore_guide.proofs.NameLemmas.{not_reached}
use Rattle.ignore_guide.proofs.told.is_absent.Goals as goal

pub returns-then-not-may_reach : goal.returns-then-not-may_reach
returns-then-not-may_reach c = not_reached c.args.lacked.now c.args.path.now (c.may_reach.ensures c.if-not-may_reach.true)
