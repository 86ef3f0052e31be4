use Rattle.ignore_base.proofs.JoinLaws.{leaves_the_path, strips_by_offset}
use Rattle.ignore_base.proofs.text.laws.offset_law.Goals as goal

pub returns-clause-left : goal.returns-clause-left
returns-clause-left c = leaves_the_path

pub returns-clause-stripped : goal.returns-clause-stripped
returns-clause-stripped c = strips_by_offset
