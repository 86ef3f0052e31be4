use Rattle.std.proofs.Common.{inl, sym}
use Rattle.std.proofs.lemmas.List.{nil_from_length}
use Rattle.ig_options.proofs.QuoteLemmas.{escape_or_none, letter_of-byte, no_escape_of_none}
use Rattle.ig_options.proofs.quotes.escaped_of.Goals as goal

pub returns-in_err-letter : goal.returns-in_err-letter
returns-in_err-letter c =
    rw c.from_residual.ensures (no_escape_of_none c.args.text.now (nil_from_length c.args.text.now c.in_err-letter.ensures.cases))

pub returns-in-Some : goal.returns-in-Some
returns-in-Some c =
    let letter = c.in_ok-letter.letter.now in
    inl (letter, c.in_ok-letter.ensures.cases.0, letter_of-byte c.in-Some.byte letter (sym c.in-Some.ensures))

pub returns : goal.returns
returns c =
    escape_or_none (λ r. r.now) c.args.text.now c.in_ok-letter.letter.now c.in_ok-letter.rest.now c.octal_of.result
    c.in_ok-letter.ensures.cases.0 (sym c.in_default.ensures) c.octal_of.ensures
