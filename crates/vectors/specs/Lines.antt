-- The verdict of a line of a file of vectors, and how lines are counted. `gives` relates a kind and
-- an input to the answers that the kind may give, and `waits` a kind to the fields that may be
-- missing in its answers.
use Rattle.std.specs.Prelude.{◌≡◌, ◌⊎◌, List, [], ◌∷◌, Option, None, Some, Result, Ok, ◌==◌}
use Rattle.std.specs.List.{slice_split}
use Rattle.vectors.specs.Text.{Bytes}
use Rattle.serde_json.specs.Data.{Data, Members}
use Rattle.serde_json.specs.Read.{read}
use Rattle.serde_json.specs.View.{view}
use Rattle.serde_json.specs.declared.value.Value.{Value}
use Rattle.vectors.specs.Tallies.{Counts, with_unread}
use Rattle.vectors.specs.Vectors.{IsVector}
use Rattle.vectors.specs.Verdicts.{Judges, counted}
use Rattle.vectors.specs.declared.trouble.Trouble.{Trouble}
use Rattle.vectors.specs.declared.verdict.Verdict.{Verdict}

-- the value is a vector, its kind may give this answer to it, and these fields may be missing
pub record Answers (gives : Bytes → Data → Option (Result Value Trouble) → Type 0) (waits : Bytes → List Bytes → Type 0) (d : Data)
    (answer : Value) (waiting : List Bytes) : Type 0 where
  pub id : Bytes
  pub kind : Bytes
  pub input : Data
  pub wanted : Members
  pub vector : IsVector d id kind input wanted
  pub given : gives kind input (Some (Ok answer))
  pub left : waits kind waiting

-- a line may have this verdict: it parses to a vector, by which an answer of its kind is judged
abbrev pub Comes : (Bytes → Data → Option (Result Value Trouble) → Type 0) → (Bytes → List Bytes → Type 0) → Bytes → Verdict
    → Type 0
Comes gives waits line verdict =
    (d : Data) × (answer : Value) × (waiting : List Bytes) × (read line ≡ Some d) × Answers gives waits d answer waiting
    × Judges d (view answer) waiting verdict

-- an empty line isn't counted; another line is counted once: by its verdict, or as no vector
abbrev pub CountsLine : (Bytes → Data → Option (Result Value Trouble) → Type 0) → (Bytes → List Bytes → Type 0) → Bytes → Counts
    → Counts → Type 0
CountsLine gives waits [] old new = new ≡ old
CountsLine gives waits (byte ∷ bytes) old new =
    ((verdict : Verdict) × Comes gives waits (byte ∷ bytes) verdict × (new ≡ counted verdict old)) ⊎ (new ≡ with_unread old)

-- each of these lines is counted, in turn
abbrev pub CountsLines : (Bytes → Data → Option (Result Value Trouble) → Type 0) → (Bytes → List Bytes → Type 0) → List Bytes
    → Counts → Counts → Type 0
CountsLines gives waits [] old new = new ≡ old
CountsLines gives waits (line ∷ lines) old new =
    (mid : Counts) × CountsLine gives waits line old mid × CountsLines gives waits lines mid new

-- the lines of what is left, if anything is: what follows a newline is a line, even if it is empty
abbrev pub lines_left : Option Bytes → List Bytes
lines_left None = []
lines_left (Some bytes) = slice_split (λ b. b == 10) bytes
