use Rattle.std.proofs.Common.{◌<◌, below_more, arith}
use Rattle.std.proofs.lemmas.Option.{slice_get_within}
use Rattle.ignore_every.proofs.places.Search.agrees_before.Goals as goal

pub loop-number-preserved : goal.loop-number-preserved
loop-number-preserved c =
    below_more _ _ c.loop-number.invariant (c.number_agrees.ensures c.if-not-number_agrees.false)

pub returns : goal.returns
returns c = λ yes i place at named near is_dir.
    let fits = slice_get_within c.args.places.now i place at in
    let below : i < c.loop-number.number = omega (arith, fits, c.loop-number-test.false) in
    c.loop-number.invariant i below place at named near is_dir
