use Rattle.std.proofs.Common.{Some, option_map}
use Rattle.ignore_walk.specs.Entry.{item_of}
use Rattle.ignore_walk.specs.Nexts.{NextGives}
use Rattle.ignore.proofs.HeadlineLemmas.{yields_then_inner}
use Rattle.ignore.proofs.walk_laws.a_run_begins_the_list.Goals as goal

pub returns : goal.returns
returns g c = λ s w v all x items n y r.
    c.a_run_begins_the_list.ensures s w.inner v.inner all x items n
    (yields_then_inner (λ a answer b. NextGives g.F.Files g.S.Callbacks a (option_map item_of answer) b) (λ w. w.inner) w v all (Some x) y) r
