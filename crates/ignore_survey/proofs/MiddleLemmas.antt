-- What stands in the place of entries is the fault of a directory.
use Rattle.std.proofs.Common.{◌≡◌, Result, Ok, Err, IfErr}
use Rattle.std.specs.declared.alloc.Global.{Global}
use Rattle.std.specs.declared.string.String.{String}
use Rattle.ignore_base.specs.Problem.{Problem, problem_of, at_path, io}
use Rattle.ignore_base.specs.Text.{Path}
use Rattle.ignore_base.specs.declared.error.Error.{Error}
use Rattle.ignore_base.specs.declared.fault.Fault.{Fault}
use Rattle.ignore_files.specs.declared.types.FileType.{FileType}
use Rattle.ignore_files.specs.declared.types.Listed.{Listed}
use Rattle.ignore_files.specs.declared.types.Listed.TheVariants as thing
use Rattle.ignore_survey.specs.Middle.{IsUnlisted}
use Rattle.ignore_survey.specs.Stands.{found_at, found_of}
use Rattle.ignore_survey.specs.Survey.{place}

pub is_unlisted : (root dir : Path) (fault : Fault) (p : Problem) → p ≡ at_path (place root dir) (io fault) → IsUnlisted root p
is_unlisted root dir fault p is = record { dir = dir; fault = fault; is = is }

-- so it is where a directory lists it
pub found_unlisted : (root dir : Path) (x : Listed) (f : Result (String Global × FileType) Error) → found_of f ≡ found_at root dir x
    → IfErr f (λ e. IsUnlisted root (problem_of e))
found_unlisted root dir x (Ok found) is = tt
found_unlisted root dir (thing.Entry name kind) (Err e) is = absurd (cc (is))
found_unlisted root dir (thing.Fault fault) (Err e) is = is_unlisted root dir fault (problem_of e) (cc (is))
