use Rattle.std.proofs.Common.{get_or, sym, ◌∙◌, arith, eqb-true}
use Rattle.std.proofs.lemmas.Str.{IsCharBoundary-after_ascii}
use Rattle.ignore_base.proofs.ComponentLemmas.{last_component-none, last_component-last}
use Rattle.ignore_base.proofs.text.last_component.Goals as goal

pub range_from-requires : goal.range_from-requires
range_from-requires c = λ _.
    let found = c.in-Some.ensures in
    let path = c.as_bytes.result.now in
    let is = eqb-true (get_or path c.in-Some.slash 0) 47 found.1 in
    let cut = IsCharBoundary-after_ascii path c.in-Some.slash c.as_bytes.ensures.utf8 found.0.high (omega arith) in
    rw (← c.as_bytes.ensures.value) cut

pub returns-in-Some : goal.returns-in-Some
returns-in-Some c =
    let found = c.in-Some.ensures in
    let path = c.as_bytes.result.now in
    c.range_from.ensures.value ∙ rw (← c.as_bytes.ensures.value)
    (sym (last_component-last path c.in-Some.slash found.0.high found.1 found.0.after))

pub returns-in-None : goal.returns-in-None
returns-in-None c =
    let path = c.as_bytes.result.now in
    rw (← c.as_bytes.ensures.value) (sym (last_component-none path (λ k l e. c.in-None.ensures k (omega arith) l e)))
