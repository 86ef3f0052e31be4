use Rattle.ignore_every.proofs.Saying.{differ_not_same}
use Rattle.ignore_every.proofs.laws.lists_that_differ_dont_say_the_same.Goals as goal

pub returns : goal.returns
returns c counted old new path is_dir before after is same = differ_not_same counted old new path is_dir before after is same
