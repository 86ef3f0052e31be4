-- The problem of an error of input and output.
use Rattle.std.specs.declared.io.ErrorKind.{ErrorKind}
use Rattle.std.specs.declared.io.ErrorKind.TheVariants.{NotFound, PermissionDenied, NotADirectory, IsADirectory, InvalidData, OutOfMemory}
use Rattle.ignore_base.specs.declared.fault.Fault.TheVariants as fault
use Rattle.ignore_base.specs.Problem.{Problem, io, memory}

-- five kinds keep their name, out of memory stays so, and every other kind is `Other`
abbrev pub problem_of_kind : ErrorKind → Problem
problem_of_kind NotFound = io fault.NotFound
problem_of_kind PermissionDenied = io fault.PermissionDenied
problem_of_kind NotADirectory = io fault.NotADirectory
problem_of_kind IsADirectory = io fault.IsADirectory
problem_of_kind InvalidData = io fault.InvalidData
problem_of_kind OutOfMemory = memory
problem_of_kind _ = io fault.Other
