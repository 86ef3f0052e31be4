-- Worked globs: which of them have braces.
use Rattle.std.proofs.Common.{◌≡◌, true, false, refl}
use Rattle.ignore_glob.specs.Glob.{literal, star, alternates, done, then, no_branch, branch}
use Rattle.ignore_glob.specs.Words.{has_braces}

-- the empty glob is without braces
empty_is_without : has_braces done ≡ false
empty_is_without = refl

-- `*.rs` is without braces
suffix_is_without : has_braces (then star (then (literal 46) (then (literal 114) (then (literal 115) done)))) ≡ false
suffix_is_without = refl

-- `{a}` has braces, and so has `*{a}b`, where they are neither first nor last
braces_are_seen : (has_braces (then (alternates (branch (then (literal 97) done) no_branch)) done) ≡ true)
    × (has_braces (then star (then (alternates (branch (then (literal 97) done) no_branch)) (then (literal 98) done))) ≡ true)
braces_are_seen = (refl, refl)
