use Rattle.ignore_walk.proofs.SomeList.{at_most, some_list, some_roots}
use Rattle.ignore_walk.proofs.bound.some_list.Goals as goal

pub returns-clause-most : goal.returns-clause-most
returns-clause-most c g n root b e dirs reaches leads = at_most g n dirs root b e reaches leads

pub returns-clause-entry : goal.returns-clause-entry
returns-clause-entry c g n root b r dirs o = some_list g n dirs o root b r

pub returns-clause-roots : goal.returns-clause-roots
returns-clause-roots c g n seen roots dirs o = some_roots g n dirs o seen roots
