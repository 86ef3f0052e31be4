use Rattle.std.proofs.Common.{◌∷◌, ◌∙◌, ap}
use Rattle.std.proofs.lemmas.List.{nil_from_length}
use Rattle.ig_options.proofs.QuoteLemmas.{no_octal, no_octal_of_none, no_octal_of_one, no_octal_of_two}
use Rattle.ig_options.proofs.quotes.octal_of.Goals as goal

pub returns-in_err-first : goal.returns-in_err-first
returns-in_err-first c =
    rw c.from_residual.ensures (no_octal_of_none c.args.text.now (nil_from_length c.args.text.now c.in_err-first.ensures.cases))

pub returns-in_err-second : goal.returns-in_err-second
returns-in_err-second c =
    rw c.from_residual-in_err-second.ensures (no_octal_of_one c.args.text.now c.in_ok-first.first.now c.in_ok-first.rest.now
    c.in_ok-first.ensures.cases.0 (nil_from_length c.in_ok-first.rest.now c.in_err-second.ensures.cases))

pub returns-in_err-third : goal.returns-in_err-third
returns-in_err-third c =
    rw c.from_residual-in_err-third.ensures (no_octal_of_two c.args.text.now c.in_ok-first.first.now c.in_ok-second.second.now
    c.in_ok-first.rest.now c.in_ok-second.rest.now c.in_ok-first.ensures.cases.0 c.in_ok-second.ensures.cases.0
    (nil_from_length c.in_ok-second.rest.now c.in_err-third.ensures.cases))

pub returns-in_err-byte : goal.returns-in_err-byte
returns-in_err-byte c =
    let cut = c.in_ok-first.ensures.cases.0 ∙ ap (λ t. c.in_ok-first.first.now ∷ t)
    (c.in_ok-second.ensures.cases.0 ∙ ap (λ t. c.in_ok-second.second.now ∷ t) c.in_ok-third.ensures.cases.0) in
    rw c.from_residual-in_err-byte.ensures (no_octal c.args.text.now c.in_ok-first.first.now c.in_ok-second.second.now
    c.in_ok-third.third.now c.in_ok-third.rest.now cut c.in_err-byte.ensures)

pub returns : goal.returns
returns c = record {
  first = c.in_ok-first.first.now;
  second = c.in_ok-second.second.now;
  third = c.in_ok-third.third.now;
  cut = c.in_ok-first.ensures.cases.0 ∙ ap (λ t. c.in_ok-first.first.now ∷ t)
      (c.in_ok-second.ensures.cases.0 ∙ ap (λ t. c.in_ok-second.second.now ∷ t) c.in_ok-third.ensures.cases.0);
  value = c.in_ok-byte.ensures;
}
