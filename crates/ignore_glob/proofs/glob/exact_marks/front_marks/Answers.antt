use Rattle.std.proofs.Common.{◌≡◌, length, ap, arith}
use Rattle.std.specs.Str.{chars}
use Rattle.std.proofs.lemmas.Iterator.{YieldsList-from_chars}
use Rattle.std.proofs.lemmas.Iterator.Consumers.{count_from_yields_List}
use Rattle.ignore_glob.specs.Exact.{front_marks}
use Rattle.ignore_glob.specs.declared.glob.kind.Kind.{Kind}
use Rattle.ignore_glob.proofs.glob.exact_marks.front_marks.Goals as goal

pub returns-in-Name : goal.returns-in-Name
returns-in-Name c =
    let text = chars c.args.text.now in
    let count : c.count.result ≡ length text =
    count_from_yields_List c.chars.result c.count.result c.count.ensures.ran (YieldsList-from_chars c.args.text.now c.utf8.text c.chars.ensures.rest) in
    let is = ap (λ (k : Kind). front_marks k text) c.in-Name.is in
    omega (arith, count, is, c.saturating_add-offsets.ensures, c.saturating_add.ensures)

pub returns-in-End : goal.returns-in-End
returns-in-End c =
    let text = chars c.args.text.now in
    let count : c.count.result ≡ length text =
    count_from_yields_List c.chars.result c.count.result c.count.ensures.ran (YieldsList-from_chars c.args.text.now c.utf8.text c.chars.ensures.rest) in
    let is = ap (λ (k : Kind). front_marks k text) c.in-End.is in
    omega (arith, count, is, c.saturating_add-offsets.ensures, c.saturating_add-in-End.ensures, c.saturating_add-in-End-2.ensures)
