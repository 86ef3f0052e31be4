use Rattle.ignore_base.proofs.NormalLemmas.{normalizes-joined, normalizes-to-clean}
use Rattle.ignore_base.proofs.text.laws.normalize_law.Goals as goal

pub returns-clause-joined : goal.returns-clause-joined
returns-clause-joined c = normalizes-joined

pub returns-clause-clean : goal.returns-clause-clean
returns-clause-clean c = normalizes-to-clean
