use Rattle.ignore_guide.proofs.WhyLemmas.{answers}
use Rattle.ignore_guide.proofs.laws.a_guide_answers_by_its_reason.Goals as goal

pub returns : goal.returns
returns c = λ s o depth at name is_dir size. answers s o depth at name is_dir size
