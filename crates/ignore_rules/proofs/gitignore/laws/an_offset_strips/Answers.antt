use Rattle.ignore_rules.proofs.OffsetLemmas.{answers_by_offset}
use Rattle.ignore_rules.proofs.gitignore.laws.an_offset_strips.Goals as goal

pub returns : goal.returns
returns c = answers_by_offset c.offset_law.ensures.stripped
