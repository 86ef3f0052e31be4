use Rattle.std.proofs.Common.{◌<◌, ℕ, List, length, ap, sym, subst, ◌∙◌}
use Rattle.std.specs.Str.{chars, IsUtf8}
use Rattle.std.proofs.lemmas.Str.{IsUtf8-string_bytes}
use Rattle.ignore_glob.specs.Exact.{exact_reading, exact_marks}
use Rattle.ignore_glob.specs.Positions.{CountsMarks}
use Rattle.ignore_glob.specs.Reading.{Reading}
use Rattle.ignore_glob.proofs.ExactLemmas.{some_chars}
use Rattle.ignore_glob.proofs.ExactMarks.{counts_exact}
use Rattle.ignore_glob.proofs.glob.exact.Exact.matches_counted.Goals as goal

pub returns-clause-counted : goal.returns-clause-counted
returns-clause-counted c =
    let kind = c.self.inside.kind in
    let key = c.as_str.result.now in
    let text = chars c.args.text.now in
    let n = exact_marks kind (chars key) text in
    let is = ap (exact_reading kind) c.as_str.ensures.value ∙ c.self.view_is in
    let R : Reading → Type 0 = λ r. CountsMarks r.case_insensitive r.tokens text n in
    let L : List ℕ → Type 0 = λ bytes. 0 < length bytes in
    let fits = subst IsUtf8 (sym c.as_str.ensures.value) (IsUtf8-string_bytes c.self.inside.text) in
    let some = some_chars key fits (subst L (sym c.as_str.ensures.value) c.self.invariant) in
    (n, subst R is (counts_exact kind (chars key) text some), c.exact_marks-marks.ensures)
