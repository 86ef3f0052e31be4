use Rattle.ignore_base.proofs.JoinLaws.{joins_name, joins_names}
use Rattle.ignore_base.proofs.text.laws.join_law.Goals as goal

pub returns-clause-name : goal.returns-clause-name
returns-clause-name c = joins_name

pub returns-clause-names : goal.returns-clause-names
returns-clause-names c = joins_names
