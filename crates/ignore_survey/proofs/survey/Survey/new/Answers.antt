use Rattle.std.proofs.Common.{refl, ◌∙◌, ap}
use Rattle.ignore_survey.specs.declared.stack.Stack.{Stack}
use Rattle.ignore_survey.proofs.LeftLemmas.{stand_whole, waits_if, whole_stands}
use Rattle.ignore_survey.proofs.survey.Survey.new.Goals as goal

pub returns-clause-whole : goal.returns-clause-whole
returns-clause-whole g c = λ s items suits whole.
    let t : Stack = record { waiting = c.in_ok-waiting.waiting; frames = c.new.result } in
    record {
      suits = c.is_open.ensures.suits s suits;
      goes_on = refl;
      stands = stand_whole s t items (c.in_ok-waiting.ensures ∙ ap waits_if (c.in_ok-goes_on.ensures.value s suits)) c.new.ensures.items whole;
    }

pub returns-clause-starts : goal.returns-clause-starts
returns-clause-starts g c = λ s suits.
    let t : Stack = record { waiting = c.in_ok-waiting.waiting; frames = c.new.result } in
    record {
      suits = c.is_open.ensures.suits s suits;
      goes_on = refl;
      whole = λ items stands.
          whole_stands s t items (c.in_ok-waiting.ensures ∙ ap waits_if (c.in_ok-goes_on.ensures.value s suits)) c.new.ensures.items stands;
    }
