use Rattle.ignore_every.proofs.Saying.{said_says}
use Rattle.ignore_every.proofs.laws.what_is_said_is_the_verdict.Goals as goal

pub returns : goal.returns
returns c rules path is_dir said is = said_says rules path is_dir said is
