-- What the program writes for a question.
use Rattle.std.specs.Prelude.{◌≡◌, ℕ, ◌+◌, Bool, true, false, List, [], ◌∷◌, ◌++◌, length, codes, if◌then◌else◌, ◌==◌, not}
use Rattle.std.specs.Prelude.{None as Nothing}
use Rattle.std.specs.Fmt.{decimal}
use Rattle.std.specs.Str.Lines.{lines}
use Rattle.ignore_base.specs.Text.{Bytes, Path}
use Rattle.ignore_base.specs.declared.match_result.Match.{Match}
use Rattle.ignore_base.specs.declared.match_result.Match.TheVariants.{None, Ignore, Whitelist}
use Rattle.ignore_base.specs.Errors.{problem_text}
use Rattle.ignore_base.specs.Problem.{Problem}
use Rattle.ignore_rules.specs.Answer.{answer}
use Rattle.ignore_rules.specs.Rules.{Rule, Ruleset, Building, begun, built, AddsLine, Refuses}
use Rattle.commands.specs.Words.{Question}

-- the line that reports a rejected line of the rules, counted from 1
abbrev pub refusal : ℕ → Problem → Bytes
refusal number problem = codes "igwalk: line " ++ (decimal number ++ (codes ": " ++ (problem_text problem ++ 10 ∷ [])))

-- adding these lines of rules in turn leads to this builder; rejected lines are left out and
-- reported
pub data Adds (root : Path) : List Bytes → Building → Bytes → Type 0 where
  no_line : Adds root [] (begun root) []
  added : (lines : List Bytes) (line : Bytes) (old new : Building) (reported : Bytes) → Adds root lines old reported
      → AddsLine old Nothing line new → Adds root (lines ++ line ∷ []) new reported
  refused : (lines : List Bytes) (line : Bytes) (builder : Building) (reported : Bytes) (problem : Problem)
      → Adds root lines builder reported → Refuses builder.options line problem
      → Adds root (lines ++ line ∷ []) builder (reported ++ refusal (length lines + 1) problem)

-- the same, with the report of the rejected lines in what was written, and whether there is one
abbrev pub AddsAll : Path → List Bytes → Building → (Bytes → Type 0) → Bool → Type 0
AddsAll root lines builder err any =
    (reported : Bytes) × Adds root lines builder reported × err reported × (any ≡ not (length reported == 0))

-- a line was rejected and reported with its number, or added with nothing reported
abbrev pub AddsOne : Building → ℕ → Bytes → Building → (Bytes → Type 0) → Bool → Type 0
AddsOne old number line new err true = (problem : Problem) × Refuses old.options line problem × (new ≡ old) × err (refusal number problem)
AddsOne old number line new err false = AddsLine old Nothing line new × err []

-- the line that answers
abbrev pub answer_line : Match Rule → Bytes
answer_line None = codes "none" ++ 10 ∷ []
answer_line (Ignore rule) = codes "ignore " ++ (rule.original ++ 10 ∷ [])
answer_line (Whitelist rule) = codes "whitelist " ++ (rule.original ++ 10 ∷ [])

-- the answer of a matcher for a path
abbrev pub answer_of : Ruleset → Path → Bool → Match Rule
answer_of matcher path is_dir = answer matcher.root matcher.rules path is_dir

-- the answer is written to the output, the rejected lines are reported as errors, and the status is
-- 1 where there was one
pub record Prints (question : Question) (status : ℕ) (out err : Bytes → Type 0) : Type 0 where
  pub builder : Building
  pub refused : Bool
  pub adds : AddsAll question.root (lines question.rules) builder err refused
  pub answers : out (answer_line (answer_of (built builder) question.path question.is_dir))
  pub ends : status ≡ (if refused then 1 else 0)
