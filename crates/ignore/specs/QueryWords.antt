-- The words of clauses on questions about single paths, beside those of `WalkWords`.
pub use Rattle.ignore_dir.specs.Limits.{beyond, inverted, is_beyond, is_none, is_whitelist, limited, no_match}
pub use Rattle.ignore_dir.specs.Query.{depth_of_path, limit_of}
pub use Rattle.ignore_dir.specs.Soft.{IsSoft}
pub use Rattle.ignore_levels.specs.Levels.{level_at, slots_of}
pub use Rattle.ignore_query.specs.Forget.{IsOwn, SameKeptAgrees, is_key_in}
pub use Rattle.ignore_query.specs.Fresh.{NothingAgrees, NothingReportsAll}
pub use Rattle.ignore_query.specs.KeptLoads.{KeepsLoads}
pub use Rattle.ignore_query.specs.Needs.{is_decided, is_known}
pub use Rattle.ignore_why.specs.Decides.{AloneDecides, FirstRankDecides}
pub use Rattle.ignore_why.specs.QueryWhy.{AnswersByReason, why_beyond}
pub use Rattle.ignore_why.specs.QueryWhy.QueryWhy.{unasked}
