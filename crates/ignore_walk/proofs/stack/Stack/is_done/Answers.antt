use Rattle.std.proofs.Common.{sym, ◌∙◌}
use Rattle.ignore_walk.proofs.StandLemmas.{stand_nothing}
use Rattle.ignore_walk.proofs.stack.Stack.is_done.Goals as goal

pub returns-then-is_outside-clause-nothing : goal.returns-then-is_outside-clause-nothing
returns-then-is_outside-clause-nothing c = λ done made s root place seen.
    stand_nothing s root place seen c.args.self.now made (sym c.as_slice.ensures.value ∙ c.is_outside.ensures.yes c.if-is_outside.true)
    (c.are_begun.ensures.yes done)
