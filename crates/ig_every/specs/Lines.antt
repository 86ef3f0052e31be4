-- What is wrong with the lines of a file of rules by themselves.
use Rattle.std.specs.Prelude.{◌≡◌, ℕ, ◌+◌, ◌==◌, Bool, true, false, not, ◌||◌, List, [], ◌∷◌, ◌++◌, length, map, nat_eq, nat_lt, option_map, if◌then◌else◌}
use Rattle.std.specs.Prelude.{Option, None, Some, Result, Ok, Err}
use Rattle.std.specs.List.{list_any, slice_split, starts_with}
use Rattle.std.specs.Option.{option_to_list}
use Rattle.std.specs.Str.{bytes_eq, trim_end}
use Rattle.std.specs.Str.Lines.{strip_carriage_return}
use Rattle.ignore_base.specs.Problem.{glob}
use Rattle.ignore_base.specs.Text.{Bytes}
use Rattle.ignore_base.specs.declared.fault.Fault.{Fault}
use Rattle.ignore_rules.specs.Line.{ParsedLine, parsed_line, without_prefix}
use Rattle.ignore_rules.specs.RuleFile.{decoded, line_content, mark}
use Rattle.ignore_rules.specs.Rules.{AddsLine, Building, Refuses, Rule}
use Rattle.ig_every.specs.Reading.{begun_by}
use Rattle.ig_every.specs.declared.diagnostic.Diagnostic.{Diagnostic}
use Rattle.ig_every.specs.declared.diagnostic.Wrong.{Wrong}
use Rattle.ig_every.specs.declared.diagnostic.Wrong.TheVariants.{NotUtf8, Mark, Return, Space, GitSpace, Invalid}
use Rattle.ig_every.specs.declared.reading.HowRead.{HowRead}

-- parts without the carriage return that each may end with, as text, or the fault where one is none
abbrev pub texts_in : List Bytes → List (Result Bytes Fault)
texts_in parts = map (λ part. decoded (strip_carriage_return part)) parts

-- the lines of a file: what is between newlines
abbrev pub texts_of : Bytes → List (Result Bytes Fault)
texts_of bytes = texts_in (slice_split (λ b. b == 10) bytes)

-- the rule of a line as it is written; empty for none
abbrev pub original_of : Option ParsedLine → Bytes
original_of None = []
original_of (Some w) = w.original

-- the first of some rules as it is written; empty without one
abbrev pub original_in : Option Rule → Bytes
original_in None = []
original_in (Some rule) = rule.original

-- the rule of a line whose white space at its end is read by git's own rule, or not
abbrev pub rule_text : Bool → Bytes → Bytes
rule_text as_git content = original_of (parsed_line as_git content)

-- the glob of a line is invalid for this reason; for none it isn't
abbrev pub IsInvalid : HowRead → Bytes → Option Bytes → Type 0
IsInvalid how content None = (new : Building) × AddsLine (begun_by how) None content new
IsInvalid how content (Some why) =
    Refuses (begun_by how).options content (glob (Some (rule_text how.git_trailing_spaces content)) why)

-- a byte order mark stands in the text
abbrev pub has_mark : Bytes → Bool
has_mark [] = false
has_mark (c ∷ text) = starts_with nat_eq (c ∷ text) mark || has_mark text

-- a line without the mark that is the first of its file
abbrev pub after_mark : ℕ → Bytes → Bytes
after_mark number line = if number == 1 then without_prefix mark line else line

-- a text ends with white space
abbrev pub ends_blank : Bytes → Bool
ends_blank text = nat_lt (length (trim_end text)) (length text)

-- a byte order mark isn't the first of its file
abbrev pub mark_wrong : ℕ → Bytes → Option Wrong
mark_wrong number line = if has_mark (after_mark number line) then Some Mark else None

-- a carriage return isn't the last of its line
abbrev pub return_wrong : Bytes → Option Wrong
return_wrong line = if list_any (λ b. b == 13) line then Some Return else None

-- git reads another rule in a line than this one, or this one ends with white space
abbrev pub blank_wrong : Bytes → Bytes → Option Wrong
blank_wrong git rule =
    if not (bytes_eq rule git) then Some GitSpace
    else if ends_blank rule then Some Space else None

-- so it is with a line that ends with white space, and of which this is the rule
abbrev pub space_wrong : Bytes → Bytes → Option Wrong
space_wrong content rule = if ends_blank content then blank_wrong (rule_text true content) rule else None

-- something that is wrong, if anything is, with the rule of a line
abbrev pub told : ℕ → Bytes → Option Wrong → List Diagnostic
told number rule wrong = map (λ w. record { line = number; rule = rule; wrong = w }) (option_to_list wrong)

-- all that is wrong with a line, of which this is the content and the rule, and whose glob is invalid
-- for this reason, if it is
abbrev pub wrong_of : ℕ → Bytes → Bytes → Bytes → Option Bytes → List Diagnostic
wrong_of number line content rule why =
    told number rule (mark_wrong number line) ++ (told number rule (return_wrong line)
    ++ (told number rule (space_wrong content rule) ++ told number rule (option_map Invalid why)))

abbrev pub wrong_with : HowRead → ℕ → Bytes → Option Bytes → List Diagnostic
wrong_with how number line why =
    wrong_of number line (line_content number line) (rule_text how.git_trailing_spaces (line_content number line)) why

-- this is wrong with the lines from the one with a number on, in their order: of a line that isn't text
-- that alone, and nothing with any line after it
pub data AreWrongFrom (how : HowRead) : ℕ → List (Result Bytes Fault) → List Diagnostic → Type 0 where
  no_more : (number : ℕ) → AreWrongFrom how number [] []
  not_text : (number : ℕ) (fault : Fault) (more : List (Result Bytes Fault))
      → AreWrongFrom how number (Err fault ∷ more) (told number [] (Some NotUtf8))
  is_text : (number : ℕ) (line : Bytes) (more : List (Result Bytes Fault)) (why : Option Bytes) (after : List Diagnostic)
      → IsInvalid how (line_content number line) why → AreWrongFrom how (number + 1) more after
      → AreWrongFrom how number (Ok line ∷ more) (wrong_with how number line why ++ after)

-- this is wrong with the lines of a file
abbrev pub AreWrongLines : HowRead → Bytes → List Diagnostic → Type 0
AreWrongLines how bytes found = AreWrongFrom how 1 (texts_of bytes) found

-- what is wrong with one line was added: it is text, or not
abbrev pub AddsWrong : HowRead → ℕ → Bytes → Bool → List Diagnostic → List Diagnostic → Type 0
AddsWrong how number line true old new =
    (content : Bytes) × (decoded line ≡ Ok content) × ((why : Option Bytes) × IsInvalid how (line_content number content) why
    × (new ≡ old ++ wrong_with how number content why))
AddsWrong how number line false old new =
    (fault : Fault) × (decoded line ≡ Err fault) × (new ≡ old ++ told number [] (Some NotUtf8))
