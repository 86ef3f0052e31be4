use Rattle.std.proofs.Common.{ℕ, List, ap, arith}
use Rattle.std.specs.Str.{chars}
use Rattle.ignore_glob.specs.Exact.{later_marks}
use Rattle.ignore_glob.proofs.glob.exact_marks.later_marks.Goals as goal

pub returns : goal.returns
returns c =
    let none = ap (λ (text : List ℕ). later_marks c.args.kind (chars c.args.literals.now) text) c.in_default.ensures.none in
    omega (arith, c.loop-d.invariant.sum, c.loop-d.invariant.within, none)
