-- What is wrong with the rules of a file: those that decide on no path, or on none that is reached.
use Rattle.std.specs.Prelude.{◌≡◌, ◌<◌, ℕ, Bool, true, false, List, [], Option, None, Some, length, map, slice_get, string_bytes, unwrap_or}
use Rattle.ignore_base.specs.Text.{Bytes, Chars}
use Rattle.ignore_every.specs.Findings.{AreReasons, DecidesNever, IsExample, IsShortest}
use Rattle.ignore_every.specs.declared.findings.Example.{Example}
use Rattle.ignore_rules.specs.Rules.{Rule}
use Rattle.ig_every.specs.declared.diagnostic.Diagnostic.{Diagnostic}
use Rattle.ig_every.specs.declared.diagnostic.Wrong.{Wrong}
use Rattle.ig_every.specs.declared.diagnostic.Wrong.TheVariants.{NotUtf8, Mark, Return, Space, GitSpace, Invalid, Again, Nothing, Overruled}
use Rattle.ig_every.specs.declared.diagnostic.Wrong.TheVariants.{InFolders, Unreached, NoEffect}

-- the number of the line of a rule, and 0 for none
abbrev pub number_in : Option Rule → ℕ
number_in None = 0
number_in (Some rule) = unwrap_or rule.line 0

-- the number of the line of the rule with an index
abbrev pub line_in : List Rule → ℕ → ℕ
line_in rules index = number_in (slice_get rules index)

-- a rule is written so
abbrev pub IsWritten : Bytes → Option Rule → Type 0
IsWritten text None = ⊥
IsWritten text (Some rule) = rule.original ≡ text

-- a later rule is written so, and stands at this line
pub record IsAgain (rules : List Rule) (index : ℕ) (text : Bytes) (line : ℕ) : Type 0 where
  pub place : ℕ
  pub later : index < place
  pub written : IsWritten text (slice_get rules place)
  pub number : line ≡ line_in rules place

-- these lines are those of the rules that decide where this one applies, and no question has it decide
pub record IsOverruled (rules : List Rule) (index : ℕ) (lines : List ℕ) : Type 0 where
  pub never : DecidesNever false rules index
  pub named : List ℕ
  pub reasons : AreReasons rules index named
  pub numbers : lines ≡ map (line_in rules) named

-- it decides on no question that the rules reach; but on one in this folder, which the rule of this line
-- ignores
pub record IsHidden (rules : List Rule) (index : ℕ) (folder : Bytes) (line : ℕ) : Type 0 where
  pub never : DecidesNever true rules index
  pub example : Example
  pub is_example : IsExample rules index example
  pub folder_is : folder ≡ string_bytes example.folder
  pub number : line ≡ line_in rules example.rule

-- what is wrong with the rule with an index, which is written so, is so
abbrev pub IsSo : List Rule → ℕ → Bytes → Wrong → Type 0
IsSo rules index text (Again line) = IsAgain rules index text line
IsSo rules index text Nothing = IsOverruled rules index []
IsSo rules index text (Overruled lines) = IsOverruled rules index lines.items
IsSo rules index text (InFolders folder line) = IsHidden rules index folder line
IsSo rules index text Unreached = DecidesNever true rules index
IsSo rules index text NotUtf8 = ⊥
IsSo rules index text Mark = ⊥
IsSo rules index text Return = ⊥
IsSo rules index text Space = ⊥
IsSo rules index text GitSpace = ⊥
IsSo rules index text (Invalid why) = ⊥
IsSo rules index text NoEffect = ⊥

-- this is wrong with the rule with an index, if anything is; else it decides on a question that the
-- rules reach, and on no shorter one
abbrev pub IsWrong : List Rule → ℕ → Bytes → Option Wrong → Type 0
IsWrong rules index text (Some wrong) = IsSo rules index text wrong
IsWrong rules index text None = (path : Chars) × (is_dir : Bool) × IsShortest true rules index path is_dir

-- the same with the line and the text of the rule
pub record IsNamed (rules : List Rule) (index : ℕ) (d : Diagnostic) : Type 0 where
  pub line : d.line ≡ line_in rules index
  pub written : IsWritten d.rule (slice_get rules index)
  pub wrong : IsSo rules index d.rule d.wrong

abbrev pub IsJudged : List Rule → ℕ → Option Diagnostic → Type 0
IsJudged rules index (Some d) = IsNamed rules index d
IsJudged rules index None = (path : Chars) × (is_dir : Bool) × IsShortest true rules index path is_dir

-- so it is with each rule
pub record AreJudged (rules : List Rule) (all : List (Option Diagnostic)) : Type 0 where
  pub each : length all ≡ length rules
  pub right : (index : ℕ) (one : Option Diagnostic) → slice_get all index ≡ Some one → IsJudged rules index one
