use Rattle.std.proofs.Common.{arith}
use Rattle.std.proofs.lemmas.Map.Text.{text_keys}
use Rattle.ignore_set.proofs.parents.Parents.put.Goals as goal

pub returns-clause-lists : goal.returns-clause-lists
returns-clause-lists c = λ q. grind (arith, text_keys)
