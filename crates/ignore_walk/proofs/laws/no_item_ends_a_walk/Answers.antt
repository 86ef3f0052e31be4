use Rattle.ignore_walk.proofs.EndLemmas.{root_finished, whole_finished}
use Rattle.ignore_walk.proofs.RunLemmas.{ended_by}
use Rattle.ignore_walk.proofs.laws.no_item_ends_a_walk.Goals as goal

pub returns-clause-root : goal.returns-clause-root
returns-clause-root c = root_finished

pub returns-clause-whole : goal.returns-clause-whole
returns-clause-whole c = whole_finished

pub returns-clause-ended : goal.returns-clause-ended
returns-clause-ended c = ended_by
