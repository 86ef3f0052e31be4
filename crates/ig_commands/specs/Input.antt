-- The paths of standard input.
use Rattle.std.specs.Prelude.{◌≢◌, ℕ, ◌+◌, List, [], ◌∷◌, ◌++◌, Contains, if◌then◌else◌}
use Rattle.ignore_base.specs.Text.{Bytes}
use Rattle.ig_options.specs.Given.{Gives, is_opened}
use Rattle.ig_options.specs.declared.given.Given.{Given}
use Rattle.ig_options.specs.declared.options.Options.{Options}
use Rattle.ig_commands.specs.Counts.{capped}

-- the byte that a record ends in
abbrev pub end_byte : Options → ℕ
end_byte o = if o.null then 0 else 10

-- bytes have these records: each but the last ends in a byte that none of them has, and the last
-- needs no end
pub data AreRecords (end : ℕ) : Bytes → List Bytes → Type 0 where
  none : AreRecords end [] []
  last : {text : Bytes} → text ≢ [] → ¬ Contains text end → AreRecords end text (text ∷ [])
  more : {text rest : Bytes} {records : List Bytes} → ¬ Contains text end → AreRecords end rest records
      → AreRecords end (text ++ end ∷ rest) (text ∷ records)

-- records give these in turn, the first with this number
abbrev pub Give : Options → ℕ → List Bytes → List Given → Type 0
Give o number [] [] = Unit {0}
Give o number [] (given ∷ others) = ⊥
Give o number (text ∷ records) [] = ⊥
Give o number (text ∷ records) (given ∷ others) =
    Gives (is_opened o.null text) text number given × Give o (capped (number + 1)) records others

-- what standard input gives
abbrev pub AreGiven : Options → Bytes → List Given → Type 0
AreGiven o bytes all = (records : List Bytes) × AreRecords (end_byte o) bytes records × Give o 1 records all

-- where these bytes are left, and records before them gave so many, these are given by all bytes first:
-- whatever is given by what is left comes after them
abbrev pub GivesOn : Options → ℕ → Bytes → Bytes → List Given → Type 0
GivesOn o number bytes rest all =
    (records : List Bytes) (others : List Given) → AreRecords (end_byte o) rest records → Give o (capped (number + 1)) records others
    → AreGiven o bytes (all ++ others)

-- these are the first that standard input gives
abbrev pub BeginsGiving : Options → Bytes → List Given → Type 0
BeginsGiving o bytes first = (rest : Bytes) × (number : ℕ) × GivesOn o number bytes rest first
