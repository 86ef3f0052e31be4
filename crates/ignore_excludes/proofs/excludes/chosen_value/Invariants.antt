use Rattle.std.proofs.Common.{ℕ, List, Option, ◌≤◌, ◌-◌, length, drop}
use Rattle.ignore_excludes.specs.Excludes.{IsChosen}
use Rattle.ignore_excludes.proofs.excludes.chosen_value.Given as goal

-- the lines that are left decide for all
abbrev pub invariant-loop-value : goal.invariant-loop-value
invariant-loop-value l = (l.at ≤ length l.bytes) × ((found : Option (List ℕ)) → IsChosen (drop l.at l.bytes) found → IsChosen l.bytes found)

abbrev pub decreases-loop-value : goal.decreases-loop-value
decreases-loop-value l = length l.bytes - l.at
