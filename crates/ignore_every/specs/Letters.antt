-- Letters: which characters are alike to the one that stands for a letter.
use Rattle.std.specs.Prelude.{◌≡◌, ◌≢◌, ◌<◌, ◌≤◌, ◌==◌, ℕ, List, Some, slice_get}
use Rattle.std.specs.Char.{IsScalar}
use Rattle.ignore_base.specs.Text.{is_slash}
use Rattle.ignore_glob.specs.PositionSets.{AreAlike}
use Rattle.ignore_glob.specs.Reading.{Reading}
use Rattle.ignore_every.specs.declared.letters.Interval.{Interval}

-- after each text both characters lead each pattern to the same set of positions
abbrev pub AreAllAlike : List Reading → ℕ → ℕ → Type 0
AreAllAlike readings c d = (i : ℕ) (reading : Reading) → slice_get readings i ≡ Some reading → AreAlike reading c d

-- the character is alike to the one that stands for the letter: by the tests of all patterns, and by
-- what it does to a name
abbrev pub IsOfLetter : List Reading → List ℕ → ℕ → ℕ → Type 0
IsOfLetter readings letters a c =
    (mark : ℕ) × (slice_get letters a ≡ Some mark) × AreAllAlike readings mark c × (is_slash mark ≡ is_slash c)
    × ((mark == 46) ≡ (c == 46))

-- each character that a path may have is in some interval
abbrev pub AreAllIn : List Interval → ℕ → Type 0
AreAllIn intervals below =
    (c : ℕ) → IsScalar c → c ≢ 0 → c < below
    → (i : ℕ) × (interval : Interval) × (slice_get intervals i ≡ Some interval) × (interval.first ≤ c) × (c ≤ interval.last)
