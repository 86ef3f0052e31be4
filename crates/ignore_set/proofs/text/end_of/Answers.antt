use Rattle.std.proofs.Common.{◌≡◌, ◌++◌, length, take, sym, ap, subst, ◌∙◌, arith}
use Rattle.std.specs.Str.{IsCharBoundary}
use Rattle.std.proofs.lemmas.Bool.{false≢true}
use Rattle.std.proofs.lemmas.List.{length-append, take-append-drop}
use Rattle.std.proofs.lemmas.Str.{IsCharBoundary-at_seam, IsUtf8-take}
use Rattle.ignore_set.proofs.text.end_of.Goals as goal

pub returns-then-is_char_boundary-clause-found : goal.returns-then-is_char_boundary-clause-found
returns-then-is_char_boundary-clause-found c =
    let text = c.args.text.now in
    let at = c.in_ok-at.at in
    let boundary = c.is_char_boundary.ensures.test.0 c.if-is_char_boundary.true in (
      (
        take at text,
        IsUtf8-take text at c.utf8.text boundary,
        sym (ap (λ l. take at text ++ l) c.range_from.ensures.value ∙ take-append-drop at text),
      ),
      omega (arith, c.range_from.ensures.len, c.in_ok-at.ensures.0, c.in_ok-at.ensures.1),
    )

pub returns-else-is_char_boundary-clause-each : goal.returns-else-is_char_boundary-clause-each
returns-else-is_char_boundary-clause-each c = λ front end cut utf8 size.
    let text = c.args.text.now in
    let long = ap length cut ∙ length-append front end in
    let same : length front ≡ c.in_ok-at.at = omega (arith, long, size, c.in_ok-at.ensures.0, c.in_ok-at.ensures.1) in
    let boundary = subst (λ n. IsCharBoundary text n) same (IsCharBoundary-at_seam text front end cut utf8) in
    absurd (false≢true (sym c.if-is_char_boundary.false ∙ c.is_char_boundary.ensures.test.1 boundary))
