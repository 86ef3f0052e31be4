use Rattle.std.proofs.lemmas.Result.{IfOk-weaker}
use Rattle.ig_options.proofs.choices.defined_types.Goals as goal

pub returns-clause-copies : goal.returns-clause-copies
returns-clause-copies c =
    IfOk-weaker c.definitions.result _ _
    (λ ds copies. (c.push_definitions.new.builder, c.in_ok-push_definitions.ensures.added, copies)) c.definitions.ensures.copies
