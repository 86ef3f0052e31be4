use Rattle.ignore_guide.proofs.WhyLemmas.{explains}
use Rattle.ignore_guide.proofs.laws.a_guide_explains_as_a_matcher.Goals as goal

pub returns : goal.returns
returns c = λ g path front n is_dir size asked rules names none is. explains g path front n is_dir size asked rules names none is
