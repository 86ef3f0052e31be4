use Rattle.ignore_why.proofs.DecidesLemmas.{alone-decides}
use Rattle.ignore_why.proofs.laws.one_rule_decides.Goals as goal

pub returns : goal.returns
returns c = record { law = λ rules text is_dir rule. alone-decides rules text is_dir rule }
