use Rattle.ignore_levels.proofs.EmptyLemmas.{verdict-kept, why-kept}
use Rattle.ignore_levels.proofs.laws.what_counts_decides.Goals as goal

pub returns-clause-same : goal.returns-clause-same
returns-clause-same c = λ s o chain text path is_dir. verdict-kept s o chain text path is_dir

pub returns-clause-why : goal.returns-clause-why
returns-clause-why c = λ s o chain text path is_dir. why-kept s o chain text path is_dir
