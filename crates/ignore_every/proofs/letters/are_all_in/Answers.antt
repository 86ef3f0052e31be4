use Rattle.std.proofs.Common.{get_or, arith, inl, inr}
use Rattle.std.proofs.lemmas.Bool.{cases_lt, leb-true}
use Rattle.std.proofs.lemmas.Option.{slice_get-get_or}
use Rattle.ignore_every.specs.declared.letters.Interval.{Interval}
use Rattle.ignore_every.proofs.letters.are_all_in.Goals as goal

pub loop-interval-init : goal.loop-interval-init
loop-interval-init c = λ d scalar some less. absurd (some (omega (arith, less)))

pub loop-interval-preserved : goal.loop-interval-preserved
loop-interval-preserved c = λ d scalar some less.
    let intervals = c.args.intervals.now in
    let i = c.loop-interval.interval-index in
    let zero_interval : Interval = record { first = 0; last = 0; letter = 0 } in
    elim (cases_lt d c.loop-interval.below) [
      | inl h ↦ c.loop-interval.invariant d scalar some h
      | inr h ↦ (
        i,
        get_or intervals i zero_interval,
        slice_get-get_or intervals i zero_interval c.loop-interval-test.true,
        c.follows.ensures c.if-not-follows.false d scalar h,
        omega (arith, less),
      )
    ]

pub returns : goal.returns
returns c = λ all d scalar some less.
    let up = leb-true 1114112 c.loop-interval.below all in
    c.loop-interval.invariant d scalar some (omega (arith, up, less))
