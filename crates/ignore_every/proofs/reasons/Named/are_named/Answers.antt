use Rattle.std.proofs.Common.{◌≡◌, ◌<◌, Bool, Some, slice_get, arith, below_more}
use Rattle.std.proofs.lemmas.Option.{slice_get_within}
use Rattle.ignore_every.specs.Findings.{IsNamedAt}
use Rattle.ignore_every.specs.Rows.{table_of}
use Rattle.ignore_every.specs.declared.place.Place.{Place}
use Rattle.ignore_every.proofs.RowLemmas.{both_kinds}
use Rattle.ignore_every.proofs.reasons.Named.are_named.Goals as goal

pub loop-number-preserved : goal.loop-number-preserved
loop-number-preserved c =
    let named = c.args.self.now in
    let here : (place : Place) → slice_get c.args.places.now c.loop-number.number ≡ Some place → (is_dir : Bool)
    → IsNamedAt (table_of named.rows.now) named.is_only_dir named.index named.named.now place is_dir = λ place at is_dir.
    both_kinds (λ d. IsNamedAt (table_of named.rows.now) named.is_only_dir named.index named.named.now place d)
    (c.is_named_for.ensures c.if-not-is_named_for.false place at) (c.is_named_for-in-loop-number.ensures c.if-not-is_named_for-2.false place at) is_dir in
    below_more _ _ c.loop-number.invariant here

pub returns : goal.returns
returns c = λ yes i place at is_dir.
    let fits = slice_get_within c.args.places.now i place at in
    let below : i < c.loop-number.number = omega (arith, fits, c.loop-number-test.false) in
    c.loop-number.invariant i below place at is_dir
