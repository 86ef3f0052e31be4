use Rattle.std.proofs.Common.{◌↔◌, List, length}
use Rattle.ignore_dir.specs.Scene.{QueryScene}
use Rattle.ignore_survey.specs.Stands.{Left}
use Rattle.ignore_survey.specs.Survey.{Item}
use Rattle.ignore_survey.proofs.stack.take_listed.Given as goal

abbrev pub invariant-loop-frame : goal.invariant-loop-frame
invariant-loop-frame l = (g : QueryScene) (items : List Item) → Left g l.fn.frames.items items ↔ Left g l.frames.items items

abbrev pub decreases-loop-frame : goal.decreases-loop-frame
decreases-loop-frame l = length l.frames.items
