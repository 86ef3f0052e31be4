use Rattle.ignore_walk.specs.Paces.{work_at}
use Rattle.ignore_walk.proofs.BelowLemmas.{first_works, steps_below, work_below}
use Rattle.ignore_walk.proofs.runs.steps_stay_below_their_roots.Goals as goal

pub returns : goal.returns
returns g c = λ files k roots w steps. work_below roots w (steps_below roots _ k (work_at roots) w (first_works roots) steps)
