-- What is wrong with files of rules, part by part.
use Rattle.std.specs.Prelude.{◌≡◌, ◌⊎◌, ℕ, false, List, [], ◌∷◌, ◌++◌, Option, Some, None, is_some, length, option_map, slice_get}
use Rattle.std.specs.Option.{option_copied}
use Rattle.ignore_base.specs.Errors.{problem_text}
use Rattle.ignore_base.specs.Problem.{Problem, several, at_line, at_path, at_depth, loop, io, glob, unrecognized, invalid_definition, memory}
use Rattle.ignore_base.specs.Problem.{Problems, no_problems, problem, problem_of}
use Rattle.ignore_base.specs.Text.{Bytes, Path}
use Rattle.ignore_kept.specs.Asks.{number_of, source_text}
use Rattle.ignore_kept.specs.Given.{fault_code}
use Rattle.ignore_kept.specs.Stops.{stop_code}
use Rattle.ignore_kept.specs.declared.guided.Guided.{Guided}
use Rattle.ignore_kept.specs.declared.guided.Stage.{Stage}
use Rattle.ignore_kept.specs.declared.guided.Stage.TheVariants as stage
use Rattle.ignore_kept.specs.declared.parts.Leaf.{Leaf}
use Rattle.ignore_kept.specs.declared.parts.Part.{Part}
use Rattle.ignore_kept.specs.declared.stopped.Stopped.TheVariants.{Memory as Full, Misused}

-- a problem that is none of several and stands at no place, with the nearest path and line around it
pub record One : Type 0 where
  pub path : Option Path
  pub line : Option ℕ
  pub what : Problem

abbrev mutual
  -- the parts of a problem, in a place
  pub parts_at : Option Path → Option ℕ → Problem → List One
  parts_at path line (several ps) = all_parts_at path line ps
  parts_at path line (at_line n p) = parts_at path (Some n) p
  parts_at path line (at_path inner p) = parts_at (Some inner) line p
  parts_at path line (at_depth depth p) = parts_at path line p
  parts_at path line (loop ancestor child) = record { path = path; line = line; what = loop ancestor child } ∷ []
  parts_at path line (io fault) = record { path = path; line = line; what = io fault } ∷ []
  parts_at path line (glob pattern err) = record { path = path; line = line; what = glob pattern err } ∷ []
  parts_at path line (unrecognized name) = record { path = path; line = line; what = unrecognized name } ∷ []
  parts_at path line invalid_definition = record { path = path; line = line; what = invalid_definition } ∷ []
  parts_at path line memory = record { path = path; line = line; what = memory } ∷ []

  pub all_parts_at : Option Path → Option ℕ → Problems → List One
  all_parts_at path line no_problems = []
  all_parts_at path line (problem p ps) = parts_at path line p ++ all_parts_at path line ps

-- the parts of a problem, if there is one
abbrev pub parts_in : Option Problem → List One
parts_in None = []
parts_in (Some p) = parts_at None None p

-- what is wrong with the directory that came last: what was read before a first root comes before
abbrev pub parts_at_stage : Stage → List One
parts_at_stage stage.Fresh = []
parts_at_stage (stage.Reading reading) = []
parts_at_stage (stage.Begun b) = parts_in (option_map problem_of b.front) ++ parts_in (option_map problem_of b.problem)

-- how a part is told: what kind of problem it is
abbrev pub kind_of : Problem → ℕ
kind_of (io fault) = 1
kind_of (glob pattern err) = 2
kind_of (several ps) = 3
kind_of (at_line line p) = 3
kind_of (at_path path p) = 3
kind_of (at_depth depth p) = 3
kind_of (loop ancestor child) = 3
kind_of (unrecognized name) = 3
kind_of invalid_definition = 3
kind_of memory = 3

-- the number of its fault, if it is one
abbrev pub fault_in : Problem → ℕ
fault_in (io fault) = fault_code fault
fault_in (glob pattern err) = 0
fault_in (several ps) = 0
fault_in (at_line line p) = 0
fault_in (at_path path p) = 0
fault_in (at_depth depth p) = 0
fault_in (loop ancestor child) = 0
fault_in (unrecognized name) = 0
fault_in invalid_definition = 0
fault_in memory = 0

-- the glob of an invalid one, if it is known
abbrev pub glob_in : Problem → Option Bytes
glob_in (glob pattern err) = pattern
glob_in (io fault) = None
glob_in (several ps) = None
glob_in (at_line line p) = None
glob_in (at_path path p) = None
glob_in (at_depth depth p) = None
glob_in (loop ancestor child) = None
glob_in (unrecognized name) = None
glob_in invalid_definition = None
glob_in memory = None

-- what is wrong, in words: of a glob without the glob
abbrev pub words_of : Problem → Bytes
words_of (glob pattern err) = err
words_of (io fault) = problem_text (io fault)
words_of (several ps) = problem_text (several ps)
words_of (at_line line p) = problem_text (at_line line p)
words_of (at_path path p) = problem_text (at_path path p)
words_of (at_depth depth p) = problem_text (at_depth depth p)
words_of (loop ancestor child) = problem_text (loop ancestor child)
words_of (unrecognized name) = problem_text (unrecognized name)
words_of invalid_definition = problem_text invalid_definition
words_of memory = problem_text memory

abbrev pub told_as : One → Part
told_as one =
    record {
      kind = kind_of one.what;
      fault = fault_in one.what;
      line = number_of one.line;
      path = length (source_text one.path);
      glob = length (source_text (glob_in one.what));
      text = length (words_of one.what);
      has_path = is_some one.path;
      has_glob = is_some (glob_in one.what);
    }

-- and its texts, one after the other
abbrev pub texts_of : One → Bytes
texts_of one = source_text one.path ++ (source_text (glob_in one.what) ++ words_of one.what)

abbrev pub no_part : Part
no_part = record { kind = 0; fault = 0; line = 0; path = 0; glob = 0; text = 0; has_path = false; has_glob = false }

-- a part is told, or there is none, or memory ran out
abbrev pub TellsPart : Option One → ℕ → Part → Bytes → Type 0
TellsPart None code part text = ((code ≡ 1) ⊎ (code ≡ stop_code Full)) × (part ≡ no_part) × (text ≡ [])
TellsPart (Some one) code part text =
    ((code ≡ 0) × (part ≡ told_as one) × (text ≡ texts_of one)) ⊎ ((code ≡ stop_code Full) × (part ≡ no_part) × (text ≡ []))

-- the part at an index of what is wrong with what a handle's guide entered last
abbrev pub TellsParts : Option Guided → ℕ → ℕ → Part → Bytes → Type 0
TellsParts None index code part text = (code ≡ stop_code Misused) × (part ≡ no_part) × (text ≡ [])
TellsParts (Some guided) index code part text = TellsPart (slice_get (parts_at_stage guided.stage) index) code part text

-- a leaf that is lent, as plain data
abbrev pub one_of : Leaf → One
one_of leaf = record { path = option_copied leaf.path; line = leaf.line; what = problem_of leaf.error.now }
