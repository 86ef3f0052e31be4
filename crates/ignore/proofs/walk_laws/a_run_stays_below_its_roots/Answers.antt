use Rattle.std.proofs.Common.{Some, option_map}
use Rattle.ignore_walk.specs.Entry.{item_of}
use Rattle.ignore_walk.specs.Nexts.{NextGives}
use Rattle.ignore.proofs.HeadlineLemmas.{drains_inner, yields_then_inner}
use Rattle.ignore.proofs.walk_laws.a_run_stays_below_its_roots.Goals as goal

pub returns-clause-whole : goal.returns-clause-whole
returns-clause-whole g c = λ roots w all d h.
    c.a_run_stays_below_its_roots.ensures.whole roots w.inner all
    (drains_inner (λ a answer b. NextGives g.F.Files g.S.Callbacks a (option_map item_of answer) b) (λ w. w.inner) w all d) h

pub returns-clause-begun : goal.returns-clause-begun
returns-clause-begun g c = λ roots w v all x y h.
    c.a_run_stays_below_its_roots.ensures.begun roots w.inner v.inner all x
    (yields_then_inner (λ a answer b. NextGives g.F.Files g.S.Callbacks a (option_map item_of answer) b) (λ w. w.inner) w v all (Some x) y) h

pub returns-clause-enters : goal.returns-clause-enters
returns-clause-enters g c = λ roots w h. c.a_run_stays_below_its_roots.ensures.enters roots w.inner h
