use Rattle.std.proofs.Common.{Some, ap, sym, ◌∙◌, ◌/◌, ◌%◌, ◌^◌, arith}
use Rattle.std.proofs.lemmas.Option.{slice_get-get_or}
use Rattle.ignore_set.proofs.ParentLemmas.{bit_here, bit_kept, bit_past}
use Rattle.ignore_set.proofs.parents.note.Goals as goal

pub returns-then-at-len-clause-own : goal.returns-then-at-len-clause-own
returns-then-at-len-clause-own c =
    let number = c.number_of-number in
    bit_here c.args.words.now.items c.args.text.now (number.result / 64) c.index_mut.result.now c.bit_of_number.result
    (ap (λ n. n / 64) number.ensures.value) (c.bit_of_number.ensures ∙ ap (λ n. 2 ^ (n % 64)) number.ensures.value)
    (omega (arith, c.if-at-len.true, c.len.ensures))

pub returns-then-at-len-clause-others : goal.returns-then-at-len-clause-others
returns-then-at-len-clause-others c = λ t had.
    let words = c.args.words.now.items in
    let at = c.number_of-number.result / 64 in
    let w = c.index_mut.result.now in
    bit_kept words at w c.bit_of_number.result t
    (slice_get-get_or words at w (omega (arith, c.if-at-len.true, c.len.ensures)) ∙ ap Some (sym c.index_mut.ensures.value)) had

pub returns-else-at-len-clause-own : goal.returns-else-at-len-clause-own
returns-else-at-len-clause-own c =
    bit_past c.args.words.now.items c.args.text.now (omega (arith, c.if-at-len.false, c.len.ensures, c.number_of-number.ensures.value))
