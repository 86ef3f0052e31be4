use Rattle.ignore_walk.proofs.OneList.{one_list, one_whole}
use Rattle.ignore_walk.proofs.laws.one_list.Goals as goal

pub returns-clause-entry : goal.returns-clause-entry
returns-clause-entry c = one_list

pub returns-clause-roots : goal.returns-clause-roots
returns-clause-roots c = one_whole
