use Rattle.std.proofs.Common.{◌≡◌, map, take}
use Rattle.ignore_dir.specs.Steps.{Reached}
use Rattle.ignore_levels.specs.Levels.{slots_of}
use Rattle.ignore_guide.specs.Forest.{Stands}
use Rattle.ignore_guide.specs.Guide.{decided_listed}
use Rattle.ignore_guide.proofs.guide.Guide.decide_all_in.Given as goal

abbrev pub invariant-loop-asked : goal.invariant-loop-asked
invariant-loop-asked l =
    (at : Reached) → Stands (slots_of l.fn.self.levels) l.fn.dir at
    → l.all.items ≡ map (decided_listed l.fn.self.settings l.fn.self.outside l.fn.dir.depth at) (take l.asked-index l.fn.listed)
