use Rattle.std.proofs.Common.{arith}
use Rattle.ignore_glob.proofs.LexemeLemmas.{no_closing, all-take}
use Rattle.ignore_glob.proofs.glob.class.closing.Goals as goal

pub returns-clause-none : goal.returns-clause-none
returns-clause-none c = no_closing c.args.text.now (all-take c.args.text.now c.loop-i.i (omega arith) c.loop-i.invariant)
