-- A zero is a character of its own.
use Rattle.std.proofs.Common.{get_or, arith, eqb-true}
use Rattle.std.proofs.lemmas.Str.{IsCharBoundary-after_ascii}
use Rattle.ignore_kept.proofs.Cutting.{cut_parts, one_piece}
use Rattle.ignore_kept.proofs.entries.cut.Goals as goal

pub range_from-requires : goal.range_from-requires
range_from-requires c = λ _.
    let found = c.in-Some.ensures in
    let text = c.as_bytes.result.now in
    let is = eqb-true (get_or text c.in-Some.end 0) 0 found.1 in
    rw (← c.as_bytes.ensures.value) (IsCharBoundary-after_ascii text c.in-Some.end c.as_bytes.ensures.utf8 found.0.high (omega arith))

pub returns-in-None : goal.returns-in-None
returns-in-None c = rw (← c.as_bytes.ensures.value) (one_piece c.as_bytes.result.now c.in-None.ensures)

pub returns-in-Some : goal.returns-in-Some
returns-in-Some c =
    let found = c.in-Some.ensures in
    rw (← c.as_bytes.ensures.value) (cut_parts c.as_bytes.result.now c.range.result.now c.range_from.result.now c.in-Some.end
    found.0.high found.1 found.0.before (rw c.as_bytes.ensures.value c.range.ensures.value)
    (rw c.as_bytes.ensures.value c.range_from.ensures.value) (rw c.as_bytes.ensures.value c.range_from.ensures.len))
