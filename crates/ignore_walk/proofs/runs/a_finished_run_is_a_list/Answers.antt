use Rattle.ignore_walk.specs.Entry.{item_of}
use Rattle.ignore_walk.proofs.RunLemmas.{run_exists}
use Rattle.ignore_walk.proofs.runs.a_finished_run_is_a_list.Goals as goal

pub returns : goal.returns
returns g c = λ s roots w all drains starts done. run_exists _ _ item_of s roots w all drains starts done
