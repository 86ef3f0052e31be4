use Rattle.std.proofs.Common.{◌≡◌, ℕ, List, ◌++◌, length}
use Rattle.ignore_glob.specs.Lexing.{Items, are_in_order, ranges}
use Rattle.ignore_glob.proofs.glob.class.ranges_of.Given as goal

-- items of the rest make items of the whole
abbrev pub invariant-loop-rest : goal.invariant-loop-rest
invariant-loop-rest l =
    (items : List (ℕ × List ℕ)) → Items l.rest items
    → (whole : List (ℕ × List ℕ)) × Items l.body whole × (are_in_order whole ≡ are_in_order items)
    × (ranges whole ≡ l.all.items ++ ranges items)

abbrev pub decreases-loop-rest : goal.decreases-loop-rest
decreases-loop-rest l = length l.rest
