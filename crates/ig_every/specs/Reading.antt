-- The rules of a file that is compared or looked at.
use Rattle.std.specs.Prelude.{◌≡◌, Bool, true, false, [], codes, option_map, Option, None, Result, Ok, Err}
use Rattle.std.specs.Str.{bytes_eq}
use Rattle.ignore_base.specs.Problem.{Problem, problem_of}
use Rattle.ignore_base.specs.Text.{Bytes, Path}
use Rattle.ignore_base.specs.declared.fault.Fault.{Fault}
use Rattle.ignore_files.specs.declared.types.Contents.{Contents}
use Rattle.ignore_files.specs.declared.types.Refusal.{Refusal}
use Rattle.ignore_files.specs.declared.types.Refusal.TheVariants.{Memory}
use Rattle.ignore_files.specs.Tree.{Tree}
use Rattle.ignore_rules.specs.RuleFile.{AddsAnswer, AddsContents}
use Rattle.ignore_rules.specs.Rules.{Building, Ruleset, begun, built, with_case_insensitive, with_git_trailing_spaces}
use Rattle.ig_every.specs.declared.reading.HowRead.{HowRead}
use Rattle.ig_every.specs.declared.reading.RulesRead.{RulesRead}

-- a builder of no rules, of which lines are read so
abbrev pub begun_by : HowRead → Building
begun_by how = with_git_trailing_spaces (with_case_insensitive (begun []) how.case_insensitive) how.git_trailing_spaces

-- what was read at a path gives these rules, and this is wrong with it
pub record IsRead (how : HowRead) (path : Path) (read : Result Contents Fault) (rules : Ruleset) (problem : Option Problem) : Type 0 where
  pub builder : Building
  pub added : AddsContents path read (begun_by how) builder problem
  pub value : rules ≡ built builder

-- the same of the answer of one call for the file
pub record IsReadBy (how : HowRead) (path : Path) (answer : Result Contents Refusal) (rules : Ruleset) (problem : Option Problem) : Type 0 where
  pub builder : Building
  pub added : AddsAnswer path answer (begun_by how) builder problem
  pub value : rules ≡ built builder

-- a file of these bytes that was read to its end
abbrev pub file_of : Bytes → Contents
file_of bytes = record { bytes = bytes; fault = None }

-- what is read of standard input, where these are its bytes
abbrev pub input_file : Bytes → Result Contents Fault
input_file bytes = Ok (file_of bytes)

-- a call returns all of these bytes, or that memory ran out
abbrev pub IsInput : Bytes → Result Contents Refusal → Type 0
IsInput bytes (Ok contents) = contents ≡ file_of bytes
IsInput bytes (Err refusal) = refusal ≡ Memory

-- a path is that of standard input
abbrev pub is_input : Path → Bool
is_input path = bytes_eq path (codes "-")

-- what is at a path: with these bytes of standard input, where it is that
abbrev pub read_of : Bool → Tree → Bytes → Path → Result Contents Fault
read_of false tree input path = tree.contents path
read_of true tree input path = input_file input

-- the rules of the file at a path, or of standard input, and what is wrong with it
abbrev pub IsSide : Tree → Bytes → HowRead → Path → RulesRead → Type 0
IsSide tree input how path r = IsRead how path (read_of (is_input path) tree input path) r.rules (option_map problem_of r.problem)
