use Rattle.std.proofs.Common.{◌^◌, ◌%◌, ◌/◌, ap, sym, get_or, slice_get, ◌∙◌}
use Rattle.std.specs.Prelude.{bit_or}
use Rattle.std.proofs.lemmas.Bool.{eq-eqb}
use Rattle.std.proofs.lemmas.Option.{slice_get-get_or}
use Rattle.ignore_set.proofs.parents.may_have.Goals as goal

pub returns : goal.returns
returns c = λ had.
    let words = c.args.words.now in
    let number = c.number_of-number.result in
    let word = get_or words (number / 64) 0 in
    let same = c.number_of-number.ensures.value in
    let got = ap (λ n. slice_get words (n / 64)) (sym same) ∙ slice_get-get_or words (number / 64) 0 c.if-at-words.false in
    eq-eqb (bit_or c.bit_of_number.result word) word
    (ap (λ b. bit_or b word) (c.bit_of_number.ensures ∙ ap (λ n. 2 ^ (n % 64)) same) ∙ had word got)
