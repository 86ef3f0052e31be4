-- What the host gave was taken down.
use Rattle.std.proofs.lemmas.Result.{IfOk-weaker}
use Rattle.ignore_kept.proofs.entering.read_on.Goals as goal

pub returns-clause-reads : goal.returns-clause-reads
returns-clause-reads c =
    IfOk-weaker c.read_outside.result _ _ (λ place h. (c.take_down.new.told, c.in_ok-take_down.ensures, h)) c.read_outside.ensures.reads
