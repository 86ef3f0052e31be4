use Rattle.ignore_levels.proofs.ChainLemmas.{chain-mark, chain-ruled}
use Rattle.ignore_levels.proofs.laws.nearest_is_named.Goals as goal

pub returns-clause-ruled : goal.returns-clause-ruled
returns-clause-ruled c = λ slots place chain is. chain-ruled slots is

pub returns-clause-mark : goal.returns-clause-mark
returns-clause-mark c = λ slots place chain is. chain-mark slots is
