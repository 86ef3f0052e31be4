use Rattle.std.proofs.Common.{map, option_map, take}
use Rattle.ignore_base.specs.Problem.{problem_of}
use Rattle.ignore_kept.specs.Guides.{AddsAll}
use Rattle.ignore_kept.proofs.entering.add_all.Given as goal

-- the files before this one were added
abbrev pub invariant-loop-path : goal.invariant-loop-path
invariant-loop-path l =
    AddsAll l.told l.env l.fn.options (take l.path-index l.paths) l.options (map (option_map problem_of) l.errors.items)
