-- Steps: one step of adding a file, as inner functions promise it to one another.
use Rattle.std.specs.Prelude.{◌≡◌, ℕ, ◌<◌, ◌≤◌, ◌==◌, ◌⊎◌, List, [], ◌∷◌, ◌++◌, length, drop, Option, Result, Ok, Err}
use Rattle.std.specs.List.{slice_split}
use Rattle.ignore_base.specs.Text.{Bytes, Path}
use Rattle.ignore_base.specs.declared.fault.Fault.{Fault as FileFault}
use Rattle.ignore_base.specs.Problem.{Problem}
use Rattle.ignore_rules.specs.declared.gitignore.file.Line.{Line}
use Rattle.ignore_rules.specs.declared.gitignore.file.Line.TheVariants.{Text, Fault, End}
use Rattle.ignore_rules.specs.Rules.{Building, Rule, AddsLineOf, Refuses, line_of_file}
use Rattle.ignore_rules.specs.RuleFile.{decoded, lines_read, line_content, at_line_of}

-- the bytes have no newline
abbrev pub IsOneSegment : Bytes → Type 0
IsOneSegment bytes = slice_split (λ b. b == 10) bytes ≡ bytes ∷ []

-- the line was read so, and the next line begins at this place
abbrev pub IsLineRead : Bytes → ℕ → Line → Type 0
IsLineRead line next (Text text place) = (decoded line ≡ Ok text.now) × (place ≡ next)
IsLineRead line next (Fault fault) = decoded line ≡ Err fault
IsLineRead line next End = ⊥

-- what a reader returns at the end of a file: the text after its last newline, with the end as its
-- place, if there is any; else the fault that cut the file, or the end
abbrev pub IsLastLineRead : Bytes → Option FileFault → ℕ → Line → Type 0
IsLastLineRead rest fault end (Text text place) =
    (lines_read rest fault ≡ Ok text.now ∷ lines_read [] fault) × (place ≡ end) × (0 < length rest)
IsLastLineRead rest fault end (Fault reported) = (more : List (Result Bytes FileFault)) × (lines_read rest fault ≡ Err reported ∷ more)
IsLastLineRead rest fault end End = lines_read rest fault ≡ []

-- the line that begins at a place was read so, and the next line begins at a later place
abbrev pub IsLineAt : Bytes → Option FileFault → ℕ → Line → Type 0
IsLineAt bytes fault at (Text text next) =
    (lines_read (drop at bytes) fault ≡ Ok text.now ∷ lines_read (drop next bytes) fault) × (at < next) × (next ≤ length bytes)
IsLineAt bytes fault at (Fault reported) =
    (more : List (Result Bytes FileFault)) × (lines_read (drop at bytes) fault ≡ Err reported ∷ more)
IsLineAt bytes fault at End = lines_read (drop at bytes) fault ≡ []

-- the line with a number was added, or it was rejected and its problem was appended to the earlier
-- ones
abbrev pub AddsOrReports : Path → ℕ → Bytes → Building → Building → List Problem → List Problem → Type 0
AddsOrReports path number line old new before after =
    (AddsLineOf old (line_of_file path number) (line_content number line) new × (after ≡ before))
    ⊎ ((problem : Problem) × Refuses old.options (line_content number line) problem × (new ≡ old)
    × (after ≡ before ++ at_line_of path number problem ∷ []))

-- the new builder is the old one with further rules
abbrev pub Keeps : Building → Building → Type 0
Keeps old new = (more : List Rule) × (new ≡ record { root = old.root; rules = old.rules ++ more; options = old.options })
