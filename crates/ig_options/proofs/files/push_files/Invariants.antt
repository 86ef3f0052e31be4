use Rattle.std.proofs.Common.{◌++◌, List, Option, drop, map, option_map}
use Rattle.ignore_base.specs.Problem.{Problem, problem_of}
use Rattle.ignore_files.specs.Gives.{IsHonest}
use Rattle.ignore_files.specs.Tree.{Tree}
use Rattle.ignore.specs.declared.options.WalkOptions.{WalkOptions}
use Rattle.ig_options.specs.Files.{AddsFiles, AddsFilesBy}
use Rattle.ig_options.proofs.files.push_files.Given as goal

-- what is left of the files leads where all of them do, and their problems come after those so far
abbrev pub invariant-loop-path : goal.invariant-loop-path
invariant-loop-path g l = record {
  read : (tree : Tree) (new : WalkOptions) (rest : List (Option Problem)) → IsHonest g.F.Files l.files tree
      → AddsFiles tree l.env (drop l.path-index l.path-items) l.walk new rest
      → AddsFiles tree l.env l.paths l.fn.walk new (map (option_map problem_of) l.errors.items ++ rest);
  answered : (new : WalkOptions) → AddsFilesBy (g.F.Files.contents_gives l.files) l.env (drop l.path-index l.path-items) l.walk new
      → AddsFilesBy (g.F.Files.contents_gives l.files) l.env l.paths l.fn.walk new;
}
