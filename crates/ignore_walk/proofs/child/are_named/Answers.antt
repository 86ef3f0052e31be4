use Rattle.std.proofs.Common.{Some, ap, sym, ◌∙◌, arith}
use Rattle.std.proofs.lemmas.Option.{slice_get-get_or, slice_get_within}
use Rattle.ignore_walk.proofs.ChildLemmas.{named_more, named_same}
use Rattle.ignore_walk.proofs.child.are_named.Goals as goal

pub loop-i-preserved : goal.loop-i-preserved
loop-i-preserved c =
    let listing = c.args.listing.now in
    let x = c.index-listing-i.result in
    let here = slice_get-get_or listing c.loop-i.i x (omega arith) ∙ ap Some (sym c.index-listing-i.is) in
    named_more listing c.loop-i.i x here (c.is_named.ensures c.if-not-is_named.false) c.loop-i.invariant

pub returns : goal.returns
returns c = λ yes.
    let listing = c.args.listing.now in
    named_same listing (λ k x got. c.loop-i.invariant k x (omega (arith, slice_get_within listing k x got, c.loop-i-test.false)) got)
