-- The verdict of a vector, and how it is counted.
use Rattle.std.specs.Prelude.{◌≡◌, List, codes, Some, ⊤}
use Rattle.vectors.specs.Text.{Bytes}
use Rattle.serde_json.specs.Data.{Data, Members}
use Rattle.serde_json.specs.View.{view}
use Rattle.vectors.specs.Agrees.{Agrees}
use Rattle.vectors.specs.Tallies.{Counts, with_passed, with_failed}
use Rattle.vectors.specs.Vectors.{object_in}
use Rattle.vectors.specs.declared.verdict.Verdict.{Verdict}
use Rattle.vectors.specs.declared.verdict.Verdict.TheVariants as verdict

-- the answer agrees with the wanted fields of the vector
abbrev pub IsWanted : Data → Data → List Bytes → Type 0
IsWanted d answer waiting = (wanted : Members) × (object_in (codes "out") d ≡ Some wanted) × Agrees wanted answer waiting

-- a vector passes only with a wanted answer, and fails only with another one
abbrev pub Judges : Data → Data → List Bytes → Verdict → Type 0
Judges d answer waiting verdict.Passed = IsWanted d answer waiting
Judges d answer waiting (verdict.Failed vector answered) =
    ¬ IsWanted d answer waiting × (view vector ≡ d) × (view answered ≡ answer)

-- the counts with one more verdict
abbrev pub counted : Verdict → Counts → Counts
counted verdict.Passed c = with_passed c
counted (verdict.Failed vector answered) c = with_failed c

-- nothing is reported of the verdict
abbrev pub IsBare : Verdict → Type 0
IsBare verdict.Passed = ⊤
IsBare (verdict.Failed vector answered) = ⊥
