use Rattle.std.proofs.Common.{◌≡◌, ℕ, ◌<◌, ◌≤◌, Some, slice_get}
use Rattle.ignore_glob.specs.PositionSets.{AreAlike}
use Rattle.ignore_glob.specs.Reading.{Reading}
use Rattle.ignore_every.proofs.letters.are_all_alike.Given as goal

-- the automata before take them alike
abbrev pub invariant-loop-automaton : goal.invariant-loop-automaton
invariant-loop-automaton l =
    (i : ℕ) → i < l.automaton-index → (reading : Reading) → slice_get l.automata i ≡ Some reading
    → (c : ℕ) → l.first ≤ c → c ≤ l.last → AreAlike reading l.mark c
