use Rattle.std.proofs.Common.{take}
use Rattle.ignore_levels.proofs.ChainLemmas.{chain-kept}
use Rattle.ignore_levels.proofs.SlotLemmas.{keeps-cut}
use Rattle.ignore_levels.proofs.laws.a_part_has_the_same_chains.Goals as goal

pub returns : goal.returns
returns c = record { longer = λ len slots place chain is. chain-kept (take len slots) slots (keeps-cut slots len) is }
