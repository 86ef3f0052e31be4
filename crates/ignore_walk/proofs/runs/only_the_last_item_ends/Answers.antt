use Rattle.ignore_walk.specs.Entry.{item_of}
use Rattle.ignore_walk.proofs.RunLemmas.{ends_last}
use Rattle.ignore_walk.proofs.runs.only_the_last_item_ends.Goals as goal

pub returns : goal.returns
returns g c = λ w all d h. ends_last _ _ item_of w all d h
