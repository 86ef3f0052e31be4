use Rattle.ignore_walk.specs.Nexts.{NextGives}
use Rattle.ignore_walk.specs.Entry.{item_of}
use Rattle.std.proofs.Common.{option_map}
use Rattle.ignore.proofs.HeadlineLemmas.{drains_inner}
use Rattle.ignore.proofs.walk_laws.a_finished_run_is_a_list.Goals as goal

pub returns : goal.returns
returns g c = λ s roots w all d starts done.
    c.a_finished_run_is_a_list.ensures s roots w.inner all
    (drains_inner (λ a answer b. NextGives g.F.Files g.S.Callbacks a (option_map item_of answer) b) (λ w. w.inner) w all d) starts done
