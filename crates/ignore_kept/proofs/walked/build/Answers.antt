-- The list is made of what the two handles keep.
use Rattle.ignore_kept.proofs.Listing.{walks}
use Rattle.ignore_kept.proofs.walked.build.Goals as goal
use Rattle.std.proofs.Common.{refl}

pub returns-in-Ok-items_of : goal.returns-in-Ok-items_of
returns-in-Ok-items_of c =
    walks c.args.setup.now c.args.tree.now c.in-Setup.setup c.in-Tree.tree c.in-Ok.options c.in-Setup.is c.in-Tree.is
    c.in-Ok.ensures.cases (record { items = c.in-Ok-items_of.items; given = 0 }) c.in-Ok-items_of.ensures.listed refl
