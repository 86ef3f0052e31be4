use Rattle.std.proofs.Common.{inl, inr}
use Rattle.ignore_set.proofs.parents.Parents.under.Goals as goal

pub returns-in-Some-clause-one : goal.returns-in-Some-clause-one
returns-in-Some-clause-one c = elim (c.listed.ensures.one) [ inl none ↦ inl none | inr e ↦ inr (c.in-Some.parent.now, e) ]
