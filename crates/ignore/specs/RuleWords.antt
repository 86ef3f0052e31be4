-- The words of clauses on lists of rules and where they are read, beside those of `Words`.
pub use Rattle.ignore_excludes.specs.ExcludesSearch.{FilesGive, IsExcludesPath, LeadsTo}
pub use Rattle.ignore_rules.specs.Answer.{AnswersByOffset, AnswersByTheLast}
pub use Rattle.ignore_rules.specs.Matchers.{BuildsAnyAnswer, IsGlobalMatcher}
pub use Rattle.ignore_rules.specs.RuleFile.{AddsOneThing, AddsSomething, GivesOneResult, KeepsTheRoot}
pub use Rattle.ignore_rules.specs.RuleIndex.{AreShortRules}
pub use Rattle.ignore_rules.specs.Rules.{empty, ignore_count, whitelist_count, with_case_insensitive, with_git_trailing_spaces}
pub use Rattle.ignore_rules.specs.Rules.{with_unclosed_class}
