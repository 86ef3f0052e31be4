-- Worked examples of positions and marks.
use Rattle.std.proofs.Common.{◌≡◌, false, [], ◌∷◌, arith, refl}
use Rattle.ignore_glob.specs.Glob.{literal, star, middle, alternates, done, then, no_branch, branch}
use Rattle.ignore_glob.specs.Matches.{slash}
use Rattle.ignore_glob.specs.Positions.{first, after, in_branch, before, the_end, table, positions, Stands, IsMarked, begins, by_nothing}
use Rattle.ignore_glob.specs.Positions.{by_character, past_star, at_star}

-- the four positions of a**/b, where a middle has two
middle_positions : positions (then (literal 97) (then middle (then (literal 98) done))) ≡ 4
middle_positions = refl

-- {a,{b,}}c: the braces, a, the inner braces, b, and c
nested_positions : positions (then (alternates (branch (then (literal 97) done)
    (branch (then (alternates (branch (then (literal 98) done) no_branch)) done) no_branch))) (then (literal 99) done)) ≡ 5
nested_positions = refl

-- next after b, inside both braces, is c
nested_table : table (then (alternates (branch (then (literal 97) done)
    (branch (then (alternates (branch (then (literal 98) done) no_branch)) done) no_branch))) (then (literal 99) done)) first the_end ≡ (
      before first,
      alternates (branch (then (literal 97) done)
          (branch (then (alternates (branch (then (literal 98) done) no_branch)) done) no_branch)),
      before (after first),
    ) ∷
    (before (in_branch 0 first), literal 97, before (after first)) ∷
    (before (in_branch 1 first), alternates (branch (then (literal 98) done) no_branch), before (after first)) ∷
    (before (in_branch 0 (in_branch 1 first)), literal 98, before (after first)) ∷
    (before (after first), literal 99, the_end) ∷ []
nested_table = refl

b_is_named : 98 ≡ slash → ⊥
b_is_named e = absurd (omega (arith, e))

star_stands : Stands (then star done) (before first) star the_end
star_stands = (0, omega arith, refl)

-- `*` against `b`: before the star and the end are marked at both offsets
star_marked : IsMarked false (then star done) (98 ∷ []) the_end 1
star_marked =
    by_nothing (before first) the_end 1
    (by_character (before first) (before first) 0 98 begins refl (at_star first the_end star_stands b_is_named))
    (past_star first the_end star_stands)
