use Rattle.std.proofs.Common.{◌+◌}
use Rattle.std.specs.Prelude.{bit_and, bit_xor}
use Rattle.std.proofs.lemmas.Nat.{le_or_l}
use Rattle.ignore_glob.proofs.WordSpread.{has_first, has_next}
use Rattle.ignore_glob.proofs.glob.word.spread.Goals as goal

pub returns-clause-first : goal.returns-clause-first
returns-clause-first c = has_first c.args.set c.args.free

pub returns-clause-next : goal.returns-clause-next
returns-clause-next c = has_next c.args.set c.args.free

pub returns-clause-greater : goal.returns-clause-greater
returns-clause-greater c = le_or_l c.args.set (bit_xor (bit_and c.args.set c.args.free + c.args.free) c.args.free)
