use Rattle.ignore_rules.proofs.FileResult.{one_result}
use Rattle.ignore_rules.proofs.gitignore.laws.a_file_gives_one_result.Goals as goal

pub returns : goal.returns
returns c = one_result
