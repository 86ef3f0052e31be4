-- Adding a file of rules to a builder: its bytes are split into lines, and each line is added in
-- turn.
use Rattle.std.specs.Prelude.{◌≡◌, ◌↔◌, ℕ, ◌+◌, ◌==◌, Bool, true, false, nat_eq, List, [], ◌∷◌, ◌++◌, map, Option, None, Some, Result, Ok}
use Rattle.std.specs.Prelude.{Err, if◌then◌else◌}
use Rattle.std.specs.List.{slice_split, starts_with}
use Rattle.std.specs.Str.{is_utf8}
use Rattle.std.specs.Str.Lines.{lines, strip_carriage_return}
use Rattle.ignore_base.specs.Text.{Bytes, Path}
use Rattle.ignore_base.specs.declared.fault.Fault.{Fault}
use Rattle.ignore_base.specs.declared.fault.Fault.TheVariants.{InvalidData}
use Rattle.ignore_base.specs.Problem.{Problem, several, at_line, at_path, at_depth, loop, io, glob, unrecognized, invalid_definition}
use Rattle.ignore_base.specs.Problem.{memory, joined_problems}
use Rattle.ignore_files.specs.declared.types.Contents.{Contents}
use Rattle.ignore_files.specs.declared.types.Refusal.{Refusal}
use Rattle.ignore_files.specs.declared.types.Refusal.TheVariants.{Memory}
use Rattle.ignore_files.specs.declared.types.Refusal.TheVariants.{Fault as Refused}
use Rattle.ignore_files.specs.Tree.{Tree}
use Rattle.ignore_rules.specs.Rules.{Building, LineOptions, Rule, AddsLineOf, Refuses, line_of_file}

-- U+FEFF in UTF-8
abbrev pub mark : Bytes
mark = 239 ∷ (187 ∷ (191 ∷ []))

-- the text without each U+FEFF that it begins with
abbrev pub unmarked : Bytes → Bytes
unmarked [] = []
unmarked (a ∷ []) = a ∷ []
unmarked (a ∷ (b ∷ [])) = a ∷ (b ∷ [])
unmarked (a ∷ (b ∷ (c ∷ text))) = if starts_with nat_eq (a ∷ (b ∷ (c ∷ text))) mark then unmarked text else a ∷ (b ∷ (c ∷ text))

-- the content of the line with a number: the first line without leading marks
abbrev pub line_content : ℕ → Bytes → Bytes
line_content number line = if number == 1 then unmarked line else line

-- a line as UTF-8 text, or the fault where it isn't
abbrev pub decoded : Bytes → Result Bytes Fault
decoded line = if is_utf8 line then Ok line else Err InvalidData

-- of the segments between newlines, the lines that end with a newline: all but the last
abbrev pub ended_of_segments : List Bytes → List Bytes
ended_of_segments [] = []
ended_of_segments (last ∷ []) = []
ended_of_segments (line ∷ (next ∷ more)) = strip_carriage_return line ∷ ended_of_segments (next ∷ more)

-- the lines of these bytes that end with a newline
abbrev pub ended_lines : Bytes → List Bytes
ended_lines bytes = ended_of_segments (slice_split (λ b. b == 10) bytes)

-- what is read, line by line: the lines of a file that was read to its end; or the lines that end
-- before a fault, and then the fault
abbrev pub lines_read : Bytes → Option Fault → List (Result Bytes Fault)
lines_read bytes None = map decoded (lines bytes)
lines_read bytes (Some fault) = map decoded (ended_lines bytes) ++ Err fault ∷ []

-- the first of what is read, line by line: a line, none where nothing is read, or a fault
abbrev pub first_read : List (Result Bytes Fault) → Result (Option Bytes) Fault
first_read [] = Ok None
first_read (Ok line ∷ more) = Ok (Some line)
first_read (Err fault ∷ more) = Err fault

-- the first line of what was read of a file: `a` of the bytes `a\r\nb`, and none of an empty file
abbrev pub first_line : Contents → Result (Option Bytes) Fault
first_line contents = first_read (lines_read contents.bytes contents.fault)

-- a problem in a file: an empty path isn't reported
abbrev pub in_file : Path → Problem → Problem
in_file [] problem = problem
in_file (c ∷ path) problem = at_path (c ∷ path) problem

-- a problem at a line of a file
abbrev pub at_line_of : Path → ℕ → Problem → Problem
at_line_of path number problem = in_file path (at_line number problem)

-- adding what is read, from the line with this number on, leads from the old builder to the new
-- one, with these problems: a line adds its rule, if any, or is rejected, and reading stops at a
-- fault
pub data AddsLines (path : Path) : ℕ → List (Result Bytes Fault) → Building → Building → List Problem → Type 0 where
  done : (number : ℕ) (old : Building) → AddsLines path number [] old old []
  stopped : (number : ℕ) (fault : Fault) (more : List (Result Bytes Fault)) (old : Building)
      → AddsLines path number (Err fault ∷ more) old old (at_line_of path number (io fault) ∷ [])
  added : (number : ℕ) (line : Bytes) (more : List (Result Bytes Fault)) (old between new : Building) (problems : List Problem)
      → AddsLineOf old (line_of_file path number) (line_content number line) between → AddsLines path (number + 1) more between new problems
      → AddsLines path number (Ok line ∷ more) old new problems
  refused : (number : ℕ) (line : Bytes) (more : List (Result Bytes Fault)) (old new : Building) (problem : Problem)
      (problems : List Problem)
      → Refuses old.options (line_content number line) problem → AddsLines path (number + 1) more old new problems
      → AddsLines path number (Ok line ∷ more) old new (at_line_of path number problem ∷ problems)

-- adding the contents of a file leads from the old builder to the new one, with this problem, if
-- any: the problems of all lines as one, or that the file can't be opened
abbrev pub AddsContents : Path → Result Contents Fault → Building → Building → Option Problem → Type 0
AddsContents path (Ok contents) old new problem =
    (problems : List Problem) × AddsLines path 1 (lines_read contents.bytes contents.fault) old new problems × (problem ≡ joined_problems problems)
AddsContents path (Err fault) old new problem = (new ≡ old) × (problem ≡ Some (at_path path (io fault)))

-- the same for the file at a path in a tree
abbrev pub AddsFile : Tree → Path → Building → Building → Option Problem → Type 0
AddsFile tree path old new problem = AddsContents path (tree.contents path) old new problem

-- the same for the answer of one call for the file, which isn't out of memory
abbrev pub AddsAnswer : Path → Result Contents Refusal → Building → Building → Option Problem → Type 0
AddsAnswer path (Ok contents) old new problem = AddsContents path (Ok contents) old new problem
AddsAnswer path (Err (Refused fault)) old new problem = AddsContents path (Err fault) old new problem
AddsAnswer path (Err Memory) old new problem = ⊥

-- the builder with these rules after its own
abbrev pub with_rules : Building → List Rule → Building
with_rules b rules = record { root = b.root; rules = b.rules ++ rules; options = b.options }

-- what was read at a path gives these rules and this problem: to add it to any builder with these
-- options appends them and reports it, and does nothing else
abbrev pub Gives : Path → Result Contents Fault → LineOptions → List Rule → Option Problem → Type 0
Gives path read options rules problem =
    (old new : Building) (reported : Option Problem) → old.options ≡ options
    → AddsContents path read old new reported ↔ ((new ≡ with_rules old rules) × (reported ≡ problem))

-- whatever was read, and by whatever options, it gives one list of rules and one problem, if any
abbrev pub GivesOneResult : Type 0
GivesOneResult =
    (path : Path) (read : Result Contents Fault) (options : LineOptions)
    → (rules : List Rule) × (problem : Option Problem) × Gives path read options rules problem

-- whatever was read at a path, it can be added to any builder
abbrev pub AddsSomething : Type 0
AddsSomething =
    (path : Path) (read : Result Contents Fault) (old : Building)
    → (new : Building) × (problem : Option Problem) × AddsContents path read old new problem

-- adding what was read leads to one builder, with one problem, if any
abbrev pub AddsOneThing : Type 0
AddsOneThing =
    (path : Path) (read : Result Contents Fault) (old new other : Building) (problem reported : Option Problem)
    → AddsContents path read old new problem → AddsContents path read old other reported → (new ≡ other) × (problem ≡ reported)

-- adding what was read keeps the root and the options
abbrev pub KeepsTheRoot : Type 0
KeepsTheRoot =
    (path : Path) (read : Result Contents Fault) (old new : Building) (problem : Option Problem)
    → AddsContents path read old new problem → (new.root ≡ old.root) × (new.options ≡ old.options)

-- the problem is out of memory
abbrev pub is_memory : Problem → Bool
is_memory memory = true
is_memory _ = false
