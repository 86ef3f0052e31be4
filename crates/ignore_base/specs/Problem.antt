-- Problems: what an error reports, as plain data. Contracts compare errors by their problems, since
-- two errors that report the same may lie in different memory.
use Rattle.std.specs.Prelude.{ℕ, List, [], ◌∷◌, Option, Some, None, option_map, string_bytes}
use Rattle.ignore_base.specs.Text.{Bytes, Path}
use Rattle.ignore_base.specs.declared.fault.Fault.{Fault}
use Rattle.ignore_base.specs.declared.error.Error.{Error}
use Rattle.ignore_base.specs.declared.error.Error.TheOpen.{Error-F, Partial, WithLineNumber, WithPath, WithDepth, Loop, Io, Glob}
use Rattle.ignore_base.specs.declared.error.Error.TheOpen.{UnrecognizedFileType, InvalidDefinition, Memory}
use Rattle.ignore_base.specs.declared.error.Error.TheFolds.{fold-Error}

mutual
  -- a problem: several at once, one at a line, a path or a depth, or one that stands alone
  pub data Problem : Type 0 where
    several : Problems → Problem
    at_line : ℕ → Problem → Problem
    at_path : Path → Problem → Problem
    at_depth : ℕ → Problem → Problem
    -- the ancestor, then the child that points to it
    loop : Path → Path → Problem
    io : Fault → Problem
    -- the glob as it was written, if it is known, then what is wrong with it
    glob : Option Bytes → Bytes → Problem
    unrecognized : Bytes → Problem
    invalid_definition : Problem
    memory : Problem

  -- problems in a row
  pub data Problems : Type 0 where
    no_problems : Problems
    problem : Problem → Problems → Problems

-- the problems of a list, in the same order
abbrev pub problems_of : List Problem → Problems
problems_of [] = no_problems
problems_of (p ∷ ps) = problem p (problems_of ps)

-- the problem of one layer of an error, given the problems of the errors inside
abbrev pub problem_step : Error-F Problem → Problem
problem_step (Partial errors) = several (problems_of errors.items)
problem_step (WithLineNumber line err) = at_line line err.value
problem_step (WithPath path err) = at_path (string_bytes path) err.value
problem_step (WithDepth depth err) = at_depth depth err.value
problem_step (Loop ancestor child) = loop (string_bytes ancestor) (string_bytes child)
problem_step (Io fault) = io fault
problem_step (Glob pattern err) = glob (option_map string_bytes pattern) (string_bytes err)
problem_step (UnrecognizedFileType name) = unrecognized (string_bytes name)
problem_step InvalidDefinition = invalid_definition
problem_step Memory = memory

-- the problem that an error reports
abbrev pub problem_of : Error → Problem
problem_of = fold-Error Problem problem_step

-- none for no problem, the problem itself for one, else several, with all of them in order: a
-- member that is several itself stays one member
abbrev pub joined_problems : List Problem → Option Problem
joined_problems [] = None
joined_problems (one ∷ []) = Some one
joined_problems (one ∷ (two ∷ more)) = Some (several (problems_of (one ∷ (two ∷ more))))
