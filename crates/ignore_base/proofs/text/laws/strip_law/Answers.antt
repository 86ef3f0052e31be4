use Rattle.ignore_base.proofs.RootLemmas.{strips_directories}
use Rattle.ignore_base.proofs.text.laws.strip_law.Goals as goal

pub returns : goal.returns
returns c = strips_directories
