use Rattle.ignore_every.proofs.leaf.Leaf.is_state_right.Goals as goal

pub returns-clause-takes : goal.returns-clause-takes
returns-clause-takes c = λ yes. c.is_taking_right.ensures c.if-not-is_taking_right.false
