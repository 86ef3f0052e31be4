use Rattle.ignore_why.proofs.DecidesLemmas.{first-rank-decides}
use Rattle.ignore_why.proofs.laws.the_first_rank_decides.Goals as goal

pub returns : goal.returns
returns c = record {
  law = λ g names is_dir x. first-rank-decides c.the_nearest_directory_decides.ensures.law c.the_last_rule_decides.ensures g names is_dir x;
}
