use Rattle.ignore_glob.proofs.RowLemmas.{Reads-same, one_fault, never_both}
use Rattle.ignore_glob.proofs.RowExists.{find_reading}
use Rattle.ignore_glob.proofs.glob.laws.one_reading.Goals as goal

pub returns-clause-some : goal.returns-clause-some
returns-clause-some c = find_reading

pub returns-clause-one : goal.returns-clause-one
returns-clause-one c = Reads-same

pub returns-clause-one_fault : goal.returns-clause-one_fault
returns-clause-one_fault c = one_fault

pub returns-clause-never_both : goal.returns-clause-never_both
returns-clause-never_both c = never_both
