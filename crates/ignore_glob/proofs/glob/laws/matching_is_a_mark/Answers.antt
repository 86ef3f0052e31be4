use Rattle.ignore_glob.proofs.MarkBounds.{matches_mark}
use Rattle.ignore_glob.proofs.glob.laws.matching_is_a_mark.Goals as goal

pub returns : goal.returns
returns c = λ fold ts text. matches_mark fold ts text
