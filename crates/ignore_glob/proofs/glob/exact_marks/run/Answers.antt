use Rattle.std.proofs.Common.{arith}
use Rattle.ignore_glob.proofs.glob.exact_marks.run.Goals as goal

pub returns : goal.returns
returns c = omega (arith, c.loop-literals.invariant.sum, c.loop-literals.invariant.within, c.in_default.ensures.none)
