-- How lines are counted, one by one.
use Rattle.std.proofs.Common.{◌≡◌, ℕ, List, [], ◌∷◌, inl, Option, Result, length, nat_eq, false, true≢false}
use Rattle.serde_json.specs.Data.{Data}
use Rattle.serde_json.specs.declared.value.Value.{Value}
use Rattle.vectors.specs.Lines.{Comes, CountsLine}
use Rattle.vectors.specs.Tallies.{Counts}
use Rattle.vectors.specs.Verdicts.{counted}
use Rattle.vectors.specs.declared.trouble.Trouble.{Trouble}
use Rattle.vectors.specs.declared.verdict.Verdict.{Verdict}

-- a line that isn't empty is counted as what came of it
pub judged_line : (gives : List ℕ → Data → Option (Result Value Trouble) → Type 0) (waits : List ℕ → List (List ℕ) → Type 0)
    (line : List ℕ) (old new : Counts) (verdict : Verdict)
    → nat_eq (length line) 0 ≡ false → Comes gives waits line verdict → new ≡ counted verdict old → CountsLine gives waits line old new
judged_line gives waits [] old new verdict filled comes counts = absurd (true≢false filled)
judged_line gives waits (byte ∷ bytes) old new verdict filled comes counts = inl (verdict, comes, counts)
