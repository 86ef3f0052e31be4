-- What each query of an error returns, and what it prints, by cases of its problem.
use Rattle.std.specs.Prelude.{ℕ, Bool, true, false, List, [], ◌∷◌, ◌++◌, codes, Option, Some, None, is_some, if◌then◌else◌}
use Rattle.std.specs.Fmt.{decimal}
use Rattle.std.specs.List.{join_with_byte}
use Rattle.ignore_base.specs.Text.{Bytes}
use Rattle.ignore_base.specs.Faults.{fault_text}
use Rattle.ignore_base.specs.declared.fault.Fault.{Fault}
use Rattle.ignore_base.specs.Problem.{Problem, several, at_line, at_path, at_depth, loop, io, glob, unrecognized, invalid_definition}
use Rattle.ignore_base.specs.Problem.{memory, Problems, no_problems, problem}

-- the problem is several, maybe at a line, a path or a depth
abbrev pub is_partial : Problem → Bool
is_partial (several ps) = true
is_partial (at_line line p) = is_partial p
is_partial (at_path path p) = is_partial p
is_partial (at_depth depth p) = is_partial p
is_partial _ = false

abbrev mutual
  -- the fault of a problem: its own, maybe at a line, a path or a depth, or that of its only member
  pub io_fault : Problem → Option Fault
  io_fault (several ps) = only_fault ps
  io_fault (at_line line p) = io_fault p
  io_fault (at_path path p) = io_fault p
  io_fault (at_depth depth p) = io_fault p
  io_fault (loop ancestor child) = None
  io_fault (io fault) = Some fault
  io_fault (glob pattern err) = None
  io_fault (unrecognized name) = None
  io_fault invalid_definition = None
  io_fault memory = None

  -- the fault of the only problem of a list; no problem and two problems have none
  pub only_fault : Problems → Option Fault
  only_fault no_problems = None
  only_fault (problem p no_problems) = io_fault p
  only_fault (problem p (problem q ps)) = None

-- the problem, unless it is a fault of the file system
abbrev pub without_fault : Option Problem → Option Problem
without_fault None = None
without_fault (Some p) = if is_some (io_fault p) then None else Some p

-- the depth of a problem, maybe at a path
abbrev pub depth_of : Problem → Option ℕ
depth_of (at_path path p) = depth_of p
depth_of (at_depth depth p) = Some depth
depth_of _ = None

-- what is wrong with a glob, after the glob itself where it is known
abbrev pub glob_text : Option Bytes → Bytes → Bytes
glob_text None err = err
glob_text (Some pattern) err = codes "error parsing glob '" ++ (pattern ++ (codes "': " ++ err))

abbrev mutual
  -- the text of a problem; several are separated by newlines
  pub problem_text : Problem → Bytes
  problem_text (several ps) = join_with_byte 10 (problem_texts ps)
  problem_text (at_line line p) = codes "line " ++ (decimal line ++ (codes ": " ++ problem_text p))
  problem_text (at_path path p) = path ++ (codes ": " ++ problem_text p)
  problem_text (at_depth depth p) = problem_text p
  problem_text (loop ancestor child) = codes "File system loop found: " ++ (child ++ (codes " points to an ancestor " ++ ancestor))
  problem_text (io fault) = fault_text fault
  problem_text (glob pattern err) = glob_text pattern err
  problem_text (unrecognized name) = codes "unrecognized file type: " ++ name
  problem_text invalid_definition = codes "invalid definition (format is type:glob, e.g., html:*.html)"
  problem_text memory = codes "out of memory"

  -- the text of each problem
  pub problem_texts : Problems → List Bytes
  problem_texts no_problems = []
  problem_texts (problem p ps) = problem_text p ∷ problem_texts ps
