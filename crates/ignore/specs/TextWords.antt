-- The words of clauses on paths as texts, in one place.
pub use Rattle.ignore_base.specs.Normalize.{NormalizesJoined, NormalizesToClean}
pub use Rattle.ignore_base.specs.Paths.{IsCleanPath, IsCleanRoot, IsHidden, JoinsName, JoinsNames, LeavesThePath, StripsByOffset}
pub use Rattle.ignore_base.specs.Paths.{StripsDirectories, components, has_slash, is_absolute, is_proper, last_component, offset_below}
pub use Rattle.ignore_base.specs.Paths.{strip_of, strip_prefix_of, trim_of}
