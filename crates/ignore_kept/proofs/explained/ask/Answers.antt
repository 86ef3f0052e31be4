-- The answer with its reason is that of what the handle keeps.
use Rattle.ignore_kept.proofs.Explaining.{explained}
use Rattle.ignore_kept.proofs.explained.ask.Goals as goal

pub returns : goal.returns
returns c =
    explained c.args.kept.now c.args.asked.tree.now c.args.asked.path.now c.in-Ok.path.now c.args.asked.is_dir c.in-Matcher.matcher
    c.in-Tree.tree c.query.new.matcher c.in-Matcher.is c.in-Tree.is c.in-Ok.ensures.value c.query.ensures.agrees
    c.query.ensures.stays c.query.ensures.same c.query.result c.query.ensures.value c.query.ensures.why c.query.ensures.out_of_memory
