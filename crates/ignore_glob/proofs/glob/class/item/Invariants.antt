use Rattle.std.proofs.Common.{◌≡◌, ℕ, List, ◌∷◌, ◌++◌, length}
use Rattle.std.specs.List.{list_all}
use Rattle.std.specs.Prelude.{nat_le}
use Rattle.ignore_glob.specs.Lexing.{turns, last_end}
use Rattle.ignore_glob.proofs.glob.class.item.Given as goal

abbrev pub invariant-loop-end : goal.invariant-loop-end
invariant-loop-end l =
    (ends : List ℕ) × (l.body ≡ l.low ∷ (turns ends ++ l.rest)) × (l.high ≡ last_end l.low ends)
    × (l.ordered ≡ list_all (nat_le l.low) ends)

abbrev pub decreases-loop-end : goal.decreases-loop-end
decreases-loop-end l = length l.rest
