-- The guide was begun.
use Rattle.ignore_kept.proofs.Leading.{at_begun}
use Rattle.ignore_kept.specs.Guides.{Enters}
use Rattle.ignore_kept.proofs.entering.enter_of.Goals as goal

pub returns-in-Begun : goal.returns-in-Begun
returns-in-Begun c =
    at_begun (Enters c.args.entering.parent c.args.entering.name.now c.args.entering.names.now) c.args.guided.now c.in-Begun.begun
    c.enter_in.result c.enter_in.new.begun c.in-Begun.is c.enter_in.ensures
