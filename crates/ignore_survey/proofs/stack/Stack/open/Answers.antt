use Rattle.std.proofs.Common.{refl, sym, ◌∙◌}
use Rattle.ignore_survey.specs.declared.stack.Stack.{Stack}
use Rattle.ignore_survey.proofs.LeftLemmas.{refused}
use Rattle.ignore_survey.proofs.stack.Stack.open.Goals as goal

pub returns-in-Err-clause-opens : goal.returns-in-Err-clause-opens
returns-in-Err-clause-opens g c = λ s items honest root.
    let t : Stack = record { waiting = c.take.new.self; frames = c.args.self.now.frames } in
    refused s c.args.self.now t c.in-Err.error c.in-Some.path items (sym c.take.ensures.value ∙ c.in-Some.is) c.take.ensures.after refl
    (rw c.in-Err.is at (c.in_ok-entered.ensures.enters s honest root))
