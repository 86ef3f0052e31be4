-- The glob is added to those that were begun.
use Rattle.ignore_kept.proofs.Wishing.{glob_added}
use Rattle.ignore_kept.proofs.wish.add_glob.Goals as goal

pub returns-in-Ok-push : goal.returns-in-Ok-push
returns-in-Ok-push c =
    glob_added c.args.glob c.in-Ok.glob.now c.args.setup.now c.in-Some.globs c.push.new.self c.in-Some.is c.in-Ok.ensures.value
    c.in-Ok-push.ensures.added
