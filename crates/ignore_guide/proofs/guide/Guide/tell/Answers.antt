use Rattle.std.proofs.lemmas.Result.{IfOk-weaker}
use Rattle.ignore_guide.proofs.guide.Guide.tell.Goals as goal

pub returns-clause-gives : goal.returns-clause-gives
returns-clause-gives c =
    IfOk-weaker c.go.result _ _ (λ step h. (c.take_down.new.told, c.in_ok-take_down.ensures, h)) c.go.ensures.gives
