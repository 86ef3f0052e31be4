use Rattle.ignore_guide.proofs.LawLemmas.{decided-is}
use Rattle.ignore_guide.proofs.laws.a_guide_decides_as_a_matcher.Goals as goal

pub returns : goal.returns
returns c = λ g path front n is_dir size asked rules names none is.
    decided-is g path front n is_dir size (c.steps_are_whole.ensures.verdict g front n is_dir) asked rules names none is
