use Rattle.ignore_walk.specs.Entry.{item_of}
use Rattle.ignore_walk.proofs.RunLemmas.{run_is_list}
use Rattle.ignore_walk.proofs.runs.a_run_yields_the_list.Goals as goal

pub returns : goal.returns
returns g c = λ s w all items n d r. run_is_list _ _ item_of s w all items n d r
