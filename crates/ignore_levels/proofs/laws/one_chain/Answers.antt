use Rattle.std.proofs.Common.{refl}
use Rattle.ignore_levels.proofs.ChainLemmas.{chain-one}
use Rattle.ignore_levels.proofs.laws.one_chain.Goals as goal

pub returns : goal.returns
returns c = record { one = λ slots place a b one other. chain-one slots place place a b refl one other }
