use Rattle.ignore_dir.proofs.LoadsOnly.{Loads-one, all_loads}
use Rattle.ignore_dir.proofs.laws.one_load.Goals as goal

pub returns-clause-some : goal.returns-clause-some
returns-clause-some c = all_loads c.a_file_adds_one_thing.ensures.some

pub returns-clause-one : goal.returns-clause-one
returns-clause-one c = Loads-one c.a_file_adds_one_thing.ensures.one
