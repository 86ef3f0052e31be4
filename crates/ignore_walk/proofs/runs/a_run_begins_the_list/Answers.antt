use Rattle.ignore_walk.specs.Entry.{item_of}
use Rattle.ignore_walk.proofs.RunLemmas.{run_begins}
use Rattle.ignore_walk.proofs.runs.a_run_begins_the_list.Goals as goal

pub returns : goal.returns
returns g c = λ s w v all x items n y r. run_begins _ _ item_of s w v all x items n y r
