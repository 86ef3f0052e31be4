use Rattle.std.proofs.Common.{◌≡◌, ℕ, ◌<◌, ◌≤◌, Some, slice_get, get_or, arith, below_more, inl, inr, subst}
use Rattle.std.proofs.Math.Utf8.{scalar_cases}
use Rattle.std.proofs.lemmas.Option.{slice_get-get_or, slice_get_within}
use Rattle.ignore_every.specs.Letters.{IsOfLetter}
use Rattle.ignore_every.specs.declared.letters.Interval.{Interval}
use Rattle.ignore_every.proofs.letters.is_alphabet.Goals as goal

pub loop-interval-preserved : goal.loop-interval-preserved
loop-interval-preserved c =
    let intervals = c.args.intervals.now in
    let i = c.loop-interval.interval-index in
    let zero_interval : Interval = record { first = 0; last = 0; letter = 0 } in
    let item = get_or intervals i zero_interval in
    let found = slice_get-get_or intervals i zero_interval c.loop-interval-test.true in
    let here : (interval : Interval) → slice_get intervals i ≡ Some interval → (d : ℕ) → interval.first ≤ d → d ≤ interval.last
    → IsOfLetter c.args.automata.now c.args.letters.now interval.letter d = λ interval at d.
    (let same : item ≡ interval = cc (at, found) in
    let P : Interval → Type 0 = λ v. v.first ≤ d → d ≤ v.last → IsOfLetter c.args.automata.now c.args.letters.now v.letter d in
    subst P same (c.is_interval_right.ensures c.if-not-is_interval_right.false d)) in
    below_more _ _ c.loop-interval.invariant here

pub returns : goal.returns
returns c = λ t d scalar some.
    let below : d < 1114112 = elim (scalar_cases d scalar) [ inl h ↦ omega (arith, h) | inr h ↦ h.1 ] in
    let found = c.are_all_in.ensures c.if-not-are_all_in.false d scalar some below in
    let fits = slice_get_within c.args.intervals.now found.0 found.1 found.2 in (
      found.1.letter,
      c.loop-interval.invariant found.0 (omega (arith, fits, c.loop-interval-test.false)) found.1 found.2 d found.3 found.4,
    )
