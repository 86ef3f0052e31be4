use Rattle.std.proofs.Common.{string_bytes, refl}
use Rattle.ignore_survey.specs.Surveyed.{entry_of}
use Rattle.ignore_survey.proofs.LeftLemmas.{next_waits}
use Rattle.ignore_survey.proofs.survey.Survey.visit.Goals as goal

pub returns-clause-hands : goal.returns-clause-hands
returns-clause-hands g c = λ s items suits.
    let e = c.in_ok-entry.entry in
    next_waits s c.args.self.now.stack _ (string_bytes c.args.path) c.args.file_type (entry_of e) items
    (c.in_ok-entry.ensures.entry s suits) c.in_ok-self.ensures refl
