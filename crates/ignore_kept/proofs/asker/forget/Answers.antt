-- What is forgotten is forgotten of what the handle keeps.
use Rattle.ignore_kept.proofs.Asking.{forgets}
use Rattle.ignore_kept.proofs.asker.forget.Goals as goal

pub returns : goal.returns
returns c =
    forgets c.args.kept.now c.args.dir.now c.in-Ok.dir.now c.in-Matcher.matcher c.forget_in.result c.forget_in.new.matcher c.in-Matcher.is
    c.in-Ok.ensures.value c.forget_in.ensures
