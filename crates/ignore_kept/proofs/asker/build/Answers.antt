-- The matcher is made of what the two handles keep.
use Rattle.ignore_kept.proofs.Asking.{builds}
use Rattle.ignore_kept.proofs.asker.build.Goals as goal

pub returns-in-Ok : goal.returns-in-Ok
returns-in-Ok c =
    builds c.args.setup.now c.args.tree.now c.in-Setup.setup c.in-Tree.tree c.in-Setup.is c.in-Tree.is c.in-Ok.matcher c.in-Ok.ensures
