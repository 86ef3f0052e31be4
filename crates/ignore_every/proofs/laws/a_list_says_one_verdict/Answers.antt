use Rattle.ignore_every.proofs.Saying.{one_verdict}
use Rattle.ignore_every.proofs.laws.a_list_says_one_verdict.Goals as goal

pub returns : goal.returns
returns c rules path is_dir v w one two = one_verdict rules path is_dir v w one two
