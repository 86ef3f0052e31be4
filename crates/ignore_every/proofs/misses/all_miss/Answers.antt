use Rattle.std.proofs.Common.{◌<◌, below_more, arith}
use Rattle.std.proofs.lemmas.Option.{slice_get_within}
use Rattle.ignore_every.proofs.misses.all_miss.Goals as goal

pub loop-number-preserved : goal.loop-number-preserved
loop-number-preserved c =
    below_more _ _ c.loop-number.invariant (c.number_misses.ensures c.if-not-number_misses.false)

pub returns : goal.returns
returns c = λ yes i place at named near is_dir.
    let fits = slice_get_within c.args.places.now i place at in
    let below : i < c.loop-number.number = omega (arith, fits, c.loop-number-test.false) in
    c.loop-number.invariant i below place at named near is_dir
