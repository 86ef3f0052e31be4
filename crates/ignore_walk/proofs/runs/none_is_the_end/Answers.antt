use Rattle.ignore_walk.specs.Entry.{item_of}
use Rattle.ignore_walk.proofs.RunLemmas.{none_again}
use Rattle.ignore_walk.proofs.runs.none_is_the_end.Goals as goal

pub returns : goal.returns
returns g c = λ a b d answer first second. none_again _ _ item_of a b d answer first second
