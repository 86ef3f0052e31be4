-- How vectors are counted, and how counts are printed.
use Rattle.std.specs.Prelude.{ℕ, ◌+◌, ◌-◌, ◌^◌, min, ◌++◌, codes, decimal}
use Rattle.vectors.specs.Text.{Bytes}

-- the counts: vectors that passed or failed, and lines that are no vector
pub record Counts : Type 0 where
  pub passed : ℕ
  pub failed : ℕ
  pub unread : ℕ

-- all counts are 0
abbrev pub nothing : Counts
nothing = record { passed = 0; failed = 0; unread = 0 }

-- a sum, which stays at the largest number of 64 bits
abbrev pub together : ℕ → ℕ → ℕ
together a b = min (a + b) (2 ^ 64 - 1)

-- the counts with one more vector that passed
abbrev pub with_passed : Counts → Counts
with_passed c = record c { passed = together c.passed 1 }

-- the counts with one more vector that failed
abbrev pub with_failed : Counts → Counts
with_failed c = record c { failed = together c.failed 1 }

-- the counts with one more line that is no vector
abbrev pub with_unread : Counts → Counts
with_unread c = record c { unread = together c.unread 1 }

-- the text of the counts
abbrev pub tally_text : Counts → Bytes
tally_text c = decimal c.passed ++ (codes " passed, " ++ (decimal c.failed ++ codes " failed"))
