-- The words of clauses on surveys, in one place.
pub use Rattle.ignore_survey.specs.Agreement.{IsKept, IsPlain, walked}
pub use Rattle.ignore_survey.specs.Finished.{IsEnd, IsFinished}
pub use Rattle.ignore_survey.specs.Nexts.{EndsBy, Handed, IsLast, NextGives, Nexts, Remaining, Shows, Starts, items_at_most}
pub use Rattle.ignore_survey.specs.Suits.{Grows, LeavesKept, LeavesNext, Reports, ReportsNext, Suits}
pub use Rattle.ignore_survey.specs.Survey.{Entry, IsSurvey, Item, entry_at, goes_on, is_open}
pub use Rattle.ignore_survey.specs.Surveyed.{entry_of, item_of}
pub use Rattle.ignore_survey.specs.declared.survey.Survey.{Survey}
pub use Rattle.ignore_survey.specs.declared.surveyed.Surveyed.{Surveyed}
