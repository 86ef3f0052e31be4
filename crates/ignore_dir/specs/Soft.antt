-- Problems that are nowhere out of memory: whatever the files answer, an error that is reported
-- beside a result is such a problem.
use Rattle.std.specs.Prelude.{◌≡◌, Bool, true, false, ◌||◌, List, [], ◌∷◌, Option, None, Some, Ok, Err}
use Rattle.ignore_base.specs.Problem.{Problem, several, at_line, at_path, at_depth, loop, io, glob, unrecognized}
use Rattle.ignore_base.specs.Problem.{invalid_definition, memory, Problems, no_problems, problem}
use Rattle.ignore_dir.specs.Exclude.{Place}

abbrev mutual
  -- the problem is out of memory, or one inside it is, at any depth
  pub holds_memory : Problem → Bool
  holds_memory (several ps) = some_holds ps
  holds_memory (at_line line p) = holds_memory p
  holds_memory (at_path path p) = holds_memory p
  holds_memory (at_depth depth p) = holds_memory p
  holds_memory memory = true
  holds_memory _ = false

  -- one of the problems is out of memory, or one inside it is
  pub some_holds : Problems → Bool
  some_holds no_problems = false
  some_holds (problem p ps) = holds_memory p || some_holds ps

-- no problem, or one that is nowhere out of memory
abbrev pub IsSoft : Option Problem → Type 0
IsSoft None = Unit {0}
IsSoft (Some p) = holds_memory p ≡ false

-- no problem of a list is out of memory, or has it inside
abbrev pub AllSoft : List Problem → Type 0
AllSoft [] = Unit {0}
AllSoft (p ∷ ps) = (holds_memory p ≡ false) × AllSoft ps

-- no problem was met on the way to a place, or one that is nowhere out of memory
abbrev pub IsSoftPlace : Place → Type 0
IsSoftPlace (Ok found) = Unit {0}
IsSoftPlace (Err p) = holds_memory p ≡ false
