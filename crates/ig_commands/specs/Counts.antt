-- Counts, which stop at the greatest number of 64 bits.
use Rattle.std.specs.Prelude.{ℕ, ◌+◌, ◌==◌, min, Bool, List, [], ◌∷◌, ◌++◌, codes, if◌then◌else◌}
use Rattle.std.specs.Fmt.{decimal}
use Rattle.ignore_base.specs.Text.{Bytes}

-- the number, or the greatest one, where it is above that
abbrev pub capped : ℕ → ℕ
capped n = min n 18446744073709551615

-- a count with one more, where it holds
abbrev pub one_more : ℕ → Bool → ℕ
one_more n holds = capped (n + (if holds then 1 else 0))

-- a count with one more for each that holds
abbrev pub counted : ℕ → List Bool → ℕ
counted n [] = n
counted n (holds ∷ more) = counted (one_more n holds) more

-- the line of the counts, where it is asked for
abbrev pub stats_line : Bool → ℕ → ℕ → Bytes
stats_line asked reported found =
    if asked then codes "ig: " ++ (decimal found ++ (codes " found, " ++ (decimal reported ++ (codes " reported" ++ 10 ∷ []))))
    else []

-- the status: 2 where something was reported, else 0 where something was found, and 1 where nothing
-- was
abbrev pub status_of : ℕ → ℕ → ℕ
status_of reported found = if reported == 0 then (if found == 0 then 1 else 0) else 2
