use Rattle.ignore_walk.specs.Entry.{item_of}
use Rattle.ignore_walk.specs.Paces.{work_of}
use Rattle.ignore_walk.proofs.BelowLemmas.{begun_below, run_below, work_below}
use Rattle.ignore_walk.proofs.runs.a_run_stays_below_its_roots.Goals as goal

pub returns-clause-whole : goal.returns-clause-whole
returns-clause-whole g c = λ roots w all d h. run_below _ _ item_of roots w all d h

pub returns-clause-begun : goal.returns-clause-begun
returns-clause-begun g c = λ roots w v all x d h. begun_below _ _ item_of roots w v all x d h

pub returns-clause-enters : goal.returns-clause-enters
returns-clause-enters g c = λ roots w h. work_below roots (work_of w.stack) h.work
