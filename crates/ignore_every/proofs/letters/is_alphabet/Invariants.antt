use Rattle.std.proofs.Common.{◌≡◌, ℕ, ◌<◌, ◌≤◌, Some, slice_get}
use Rattle.ignore_every.specs.Letters.{IsOfLetter}
use Rattle.ignore_every.specs.declared.letters.Interval.{Interval}
use Rattle.ignore_every.proofs.letters.is_alphabet.Given as goal

-- the intervals before are right
abbrev pub invariant-loop-interval : goal.invariant-loop-interval
invariant-loop-interval l =
    (i : ℕ) → i < l.interval-index → (interval : Interval) → slice_get l.intervals i ≡ Some interval
    → (c : ℕ) → interval.first ≤ c → c ≤ interval.last → IsOfLetter l.automata l.letters interval.letter c
