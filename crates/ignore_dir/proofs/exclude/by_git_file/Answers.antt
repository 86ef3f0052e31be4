use Rattle.std.proofs.lemmas.Result.{IfOk-weaker}
use Rattle.ignore_dir.proofs.exclude.by_git_file.Goals as goal

pub returns-clause-answered : goal.returns-clause-answered
returns-clause-answered g c =
    IfOk-weaker c.led_by_git_file.result _ _ (λ place leads. (c.in_ok-read.read, c.in_ok-read.ensures.answered, leads))
    c.led_by_git_file.ensures.answered
