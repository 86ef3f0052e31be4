-- The words of clauses on rules over all paths, in one place.
pub use Rattle.ignore_every.specs.Differences.{AreAllDifferences, AreDifferences, AreDifferent, IsSamePair}
pub use Rattle.ignore_every.specs.Findings.{AppliesAt, AreReasons, AreRightFindings, DecidesNever, HasAllReasons, IsExample, IsInFolder, IsReason, IsRightFinding, IsShortest}
pub use Rattle.ignore_every.specs.Machines.{AreSetsAfter, HasTaking, IsAlphabet, IsIn, IsLastOf, IsRight, IsRightTable, Table, ignores, ignores_at, is_cut, is_free}
pub use Rattle.ignore_every.specs.Names.{after_dot, is_named, name_after}
pub use Rattle.ignore_every.specs.Questions.{Decides, HasNoIgnoredAncestor, IsAsked, IsClean, IsCleanName, IsIgnored, IsNameCharacter, IsReached, path_of}
pub use Rattle.ignore_every.specs.Searches.{IsClosed, IsClosedStep, IsPlaceOf, IsRightSide, IsSideStep, IsSoundSearch, Scope, Tabled, ends, goes_on, starts}
pub use Rattle.ignore_every.specs.Verdicts.{AreDifferentAt, AreFirstDifferentAt, DecidesReached, HasIgnoredAncestor, IsComparison, IsDifference, IsSaid, SayAlike, SayAlikeBefore, SaySame, Says, counted_as, said_rule, said_verdict, verdict_of}
pub use Rattle.ignore_every.specs.declared.findings.Example.{Example}
pub use Rattle.ignore_every.specs.declared.findings.Finding.{Finding}
pub use Rattle.ignore_every.specs.declared.findings.Question.{Question}
pub use Rattle.ignore_every.specs.declared.place.NameStart.{NameStart}
pub use Rattle.ignore_every.specs.declared.place.Place.{Place}
pub use Rattle.ignore_every.specs.declared.said.Comparison.{Comparison}
pub use Rattle.ignore_every.specs.declared.said.Counted.{Counted}
pub use Rattle.ignore_every.specs.declared.said.Difference.{Difference}
pub use Rattle.ignore_every.specs.declared.said.Folder.{Folder}
pub use Rattle.ignore_every.specs.declared.said.Said.{Said}
pub use Rattle.ignore_every.specs.declared.said.Verdict.{Verdict}
pub use Rattle.ignore_every.specs.declared.said.Wanted.{Wanted}
