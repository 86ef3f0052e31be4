use Rattle.ignore_survey.proofs.KeptEntries.{agreement}
use Rattle.ignore_survey.proofs.laws.survey_agrees_with_walk.Goals as goal

pub returns : goal.returns
returns c = λ g root top v items out n plain no_stdin is directory survey walk.
    agreement g root c.join_law.ensures.name plain no_stdin top is directory items survey out n walk
    (λ b e reached within. c.walk_agrees_with_queries.ensures.entry g root b e out n plain.is_open no_stdin reached within walk)
    (λ e. c.walk_yields_what_it_shows.ensures.below g root e out n walk) v
