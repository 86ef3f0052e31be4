-- Items after which a survey goes on, whatever the files answer.
use Rattle.std.specs.Prelude.{◌≡◌, option_map, Result, Ok, Err}
use Rattle.ignore_base.specs.Problem.{Problem, problem_of, at_path, io}
use Rattle.ignore_base.specs.Text.{Path}
use Rattle.ignore_base.specs.declared.error.Error.{Error}
use Rattle.ignore_base.specs.declared.fault.Fault.{Fault}
use Rattle.ignore_dir.specs.Soft.{IsSoft}
use Rattle.ignore_survey.specs.Survey.{place}
use Rattle.ignore_survey.specs.declared.surveyed.Surveyed.{Surveyed}

-- a problem is the fault of what can't be listed of a directory at or below this root
pub record IsUnlisted (root : Path) (p : Problem) : Type 0 where
  pub dir : Path
  pub fault : Fault
  pub is : p ≡ at_path (place root dir) (io fault)

-- a survey goes on after an item: out of memory is nowhere inside an entry's error; an error in the
-- place of entries is the fault of a directory
abbrev pub GoesOn : Path → Result Surveyed Error → Type 0
GoesOn root (Ok s) = IsSoft (option_map problem_of s.error)
GoesOn root (Err e) = IsUnlisted root (problem_of e)
