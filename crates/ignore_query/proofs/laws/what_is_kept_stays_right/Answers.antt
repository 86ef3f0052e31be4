use Rattle.ignore_query.proofs.ForgetLemmas.{later_agrees}
use Rattle.ignore_query.proofs.laws.what_is_kept_stays_right.Goals as goal

pub returns : goal.returns
returns c = later_agrees
