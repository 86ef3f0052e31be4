use Rattle.ignore_levels.proofs.SiteLemmas.{nearest-decides}
use Rattle.ignore_levels.proofs.laws.the_nearest_directory_decides.Goals as goal

pub returns : goal.returns
returns c = record { law = nearest-decides c.the_last_rule_decides.ensures }
