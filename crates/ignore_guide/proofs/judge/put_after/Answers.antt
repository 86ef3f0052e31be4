-- What the text begins with ends where a character ends.
use Rattle.std.proofs.Common.{◌≡◌, ◌+◌, ◌≤◌, length, take, string_bytes, arith, sym, ap, subst, ◌∙◌}
use Rattle.std.proofs.Math.Seq.{take-append_seam}
use Rattle.std.proofs.lemmas.List.{length-append}
use Rattle.std.proofs.lemmas.Str.{IsCharBoundary-from_take, IsUtf8-string_bytes}
use Rattle.std.specs.Str.{IsUtf8}
use Rattle.ignore_guide.proofs.judge.put_after.Goals as goal

pub truncate-requires : goal.truncate-requires
truncate-requires c = λ h.
    let text = string_bytes c.begin_with.new.text in
    let around = c.args.around.now in
    let begins = c.in_ok-begin_with.ensures in
    let longer : length text ≡ length around + length begins.0 = ap length begins.1 ∙ length-append around begins.0 in
    let within : length around ≤ length text = omega (arith, longer) in
    let front : take (length around) text ≡ around = ap (take (length around)) begins.1 ∙ take-append_seam around begins.0 in
    let cut = IsCharBoundary-from_take text (length around) (IsUtf8-string_bytes c.begin_with.new.text) within (subst IsUtf8 (sym front) c.utf8.around) in
    (within, λ some l high. cut.1 l high)
