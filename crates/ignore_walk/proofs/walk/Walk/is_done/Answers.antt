use Rattle.ignore_walk.proofs.walk.Walk.is_done.Goals as goal

pub returns-else-self-clause-none : goal.returns-else-self-clause-none
returns-else-self-clause-none g c = λ done on s items n made r. c.is_done.ensures.none done s items n made r

pub returns-else-self-clause-nothing : goal.returns-else-self-clause-nothing
returns-else-self-clause-nothing g c = λ done on made s root place seen. c.is_done.ensures.nothing done made s root place seen
