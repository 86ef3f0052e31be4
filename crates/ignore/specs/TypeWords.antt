-- The words of clauses on file types, in one place.
pub use Rattle.ignore_types.specs.AllDefaults.{all_default_rows}
pub use Rattle.ignore_types.specs.Building.{IsBuilt, IsRefusedWith}
pub use Rattle.ignore_types.specs.Defaults.{with_defaults}
pub use Rattle.ignore_types.specs.Refusals.{IsRefusal}
pub use Rattle.ignore_types.specs.TypeMatch.{AnswersByTheLastChoice}
pub use Rattle.ignore_types.specs.Types.{Becomes, IsAscending, IsSortedCopy, after_request, one_glob, request_of, with_chosen, without}
