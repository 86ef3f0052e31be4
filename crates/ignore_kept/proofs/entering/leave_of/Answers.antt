-- The guide was begun.
use Rattle.ignore_kept.proofs.Leading.{at_begun}
use Rattle.ignore_kept.specs.Guides.{Leaves}
use Rattle.ignore_kept.proofs.entering.leave_of.Goals as goal

pub returns-in-Begun : goal.returns-in-Begun
returns-in-Begun c =
    at_begun (Leaves c.args.place) c.args.guided.now c.in-Begun.begun
    c.leave_in.result c.leave_in.new.begun c.in-Begun.is c.leave_in.ensures
