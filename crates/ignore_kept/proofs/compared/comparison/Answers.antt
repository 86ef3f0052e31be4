-- The rules are those that the two handles keep.
use Rattle.ignore_kept.proofs.Judged.{compares}
use Rattle.ignore_kept.proofs.compared.comparison.Goals as goal

pub returns : goal.returns
returns c =
    compares _ _ c.in-Rules.before c.in-Rules-new.after c.args.asked.options.only_ignored _ c.in-Rules.is c.in-Rules-new.is
    c.compared.ensures.same c.compared.ensures.unjudged
