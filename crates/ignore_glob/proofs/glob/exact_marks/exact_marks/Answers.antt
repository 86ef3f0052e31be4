use Rattle.std.proofs.Common.{ap, arith}
use Rattle.std.specs.Str.{chars}
use Rattle.ignore_glob.specs.Exact.{exact_marks}
use Rattle.ignore_glob.specs.declared.glob.kind.Kind.{Kind}
use Rattle.ignore_glob.proofs.ExactMarks.{none_later}
use Rattle.ignore_glob.proofs.glob.exact_marks.exact_marks.Goals as goal

pub returns-in-Whole : goal.returns-in-Whole
returns-in-Whole c =
    let cs = chars c.args.literals.now in
    let text = chars c.args.text.now in
    let is = ap (λ (k : Kind). exact_marks k cs text) c.in-Whole.is in
    omega (arith, is, none_later cs text, c.run-first.ensures)
