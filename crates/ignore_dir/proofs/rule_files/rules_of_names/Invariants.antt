use Rattle.std.proofs.Common.{take, map}
use Rattle.ignore_base.specs.Paths.{join_of}
use Rattle.ignore_base.specs.Problem.{problem_of}
use Rattle.ignore_files.specs.Shown.{Shows}
use Rattle.ignore_dir.specs.Ground.{InTree}
use Rattle.ignore_dir.specs.Load.{AddsFiles, started}
use Rattle.ignore_dir.specs.LoadsBy.{AddAllBy, reads_of, stats_shown}
use Rattle.ignore_dir.specs.Soft.{AllSoft}
use Rattle.ignore_dir.proofs.rule_files.rules_of_names.Given as goal

abbrev pub invariant-loop-name : goal.invariant-loop-name
invariant-loop-name g l = record {
  added : InTree g.F.Files l.ground (λ tree. Shows tree l.dir l.shown →
      AddsFiles tree (map (join_of l.dir) (take l.name-index l.names)) (started l.ground.settings.now l.dir) l.builder
      (map problem_of l.errors.items));
  answered : AddAllBy (stats_shown g.F.Files l.ground.files.now l.dir l.shown) (reads_of g.F.Files l.ground.files.now)
      (map (join_of l.dir) (take l.name-index l.names)) (started l.ground.settings.now l.dir) l.builder (map problem_of l.errors.items);
  soft : AllSoft (map problem_of l.errors.items);
}
