use Rattle.std.proofs.Common.{refl}
use Rattle.ignore_walk.proofs.NoEndLemmas.{first_goes_on}
use Rattle.ignore_walk.proofs.StandLemmas.{stand_first_of}
use Rattle.ignore_walk.proofs.BelowLemmas.{first_below}
use Rattle.ignore_walk.proofs.stack.Stack.take_made.Goals as goal

pub returns-clause-no_end : goal.returns-clause-no_end
returns-clause-no_end c = λ h. first_goes_on _ _ c.pop_front.result c.pop_front.ensures.items h

pub returns-clause-first : goal.returns-clause-first
returns-clause-first c = λ s root place seen is.
    stand_first_of s root place seen c.args.self.now _ c.pop_front.result (record { seen = refl; roots = refl; above = refl; device = refl })
    refl refl c.pop_front.ensures.items is

pub returns-clause-below : goal.returns-clause-below
returns-clause-below c = λ roots h.
    let t = first_below roots _ _ c.pop_front.result c.pop_front.ensures.items h.made in (record { work = h.work; made = t.0 }, t.1)
