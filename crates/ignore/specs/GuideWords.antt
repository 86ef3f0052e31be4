-- The words of clauses on guides, beside those of `WalkWords` and `QueryWords`.
pub use Rattle.ignore.specs.AskedNext.{AsksNext}
pub use Rattle.ignore_dir.specs.Above.{problems_of_loads}
pub use Rattle.ignore_dir.specs.Lists.{Placed}
pub use Rattle.ignore_dir.specs.Load.{joined_some}
pub use Rattle.ignore_dir.specs.LoadsBy.{LoadsBy, reads_of, stats_of}
pub use Rattle.ignore_dir.specs.Query.{ancestors, has_rules, is_ignored, size_of}
pub use Rattle.ignore_dir.specs.Steps.{Reached, entered, entry, reached_in}
pub use Rattle.ignore_guide.specs.Guide.{InGuide, IsRootBy, IsSameGuide, IsUnchanged, KeepsPlaces, StandsFor, cause_at, decided, decided_listed, holding, len_of, root_reached, why_at}
pub use Rattle.ignore_guide.specs.Hosted.{CallRefused, IsNewPlace, IsPlaced, IsToldOf, StepGives, StepPlaces}
pub use Rattle.ignore_guide.specs.Names.{IsAsked, IsLeft, IsNoPlace, IsNotLeft, IsRefused}
pub use Rattle.ignore_guide.specs.Places.{IsGone, IsIn, IsSamePlaces, KeepsOthers, entered_at}
pub use Rattle.ignore_guide.specs.Reasons.{decided_why}
pub use Rattle.ignore_guide.specs.Told.{AreOf, IsAlmostFresh, IsFresh, without_sizes}
pub use Rattle.ignore_guide.specs.declared.error.GuideError.TheVariants.{Memory}
pub use Rattle.ignore_guide.specs.declared.guide.Guide.{Guide}
pub use Rattle.ignore_guide.specs.declared.hosted.Call.TheVariants.{Enter, Root}
pub use Rattle.ignore_guide.specs.declared.places.Place.{Place}
pub use Rattle.ignore_guide.specs.declared.told.Told.{Told}
pub use Rattle.ignore_levels.specs.Reasons.{why_of}
pub use Rattle.ignore_why.specs.Cited.{cited_of}
pub use Rattle.ignore_why.specs.QueryWhy.{answer_of}
