use Rattle.ignore_glob.proofs.DoesMatchLemmas.{matching_decided}
use Rattle.ignore_glob.proofs.glob.laws.matching_is_decided.Goals as goal

pub returns : goal.returns
returns c reading text = matching_decided reading text
