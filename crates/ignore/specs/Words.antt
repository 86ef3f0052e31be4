-- The words of clauses from the crates below, in one place: errors, paths, matches, rules, types.
pub use Rattle.ignore_base.specs.Text.{Bytes, Chars, Path}
pub use Rattle.ignore_base.specs.Paths.{file_name_of, folder_of, join_of}
pub use Rattle.ignore_base.specs.Problem.{Problem, at_depth, at_path, io, joined_problems, loop, memory, problem_of}
pub use Rattle.ignore_base.specs.Match.{IsMapped, inner, invert, is_ignore, is_none, is_whitelist, match_map, match_or}
pub use Rattle.ignore_base.specs.declared.error.Error.{Error}
pub use Rattle.ignore_base.specs.declared.fault.Fault.{Fault}
pub use Rattle.ignore_base.specs.declared.fault.Fault.TheVariants.{InvalidData, NoCurrentDir, StepLimit}
pub use Rattle.ignore_base.specs.declared.match_result.Match.{Match}
pub use Rattle.ignore_rules.specs.Rules.{AddsLine, Building, Refuses, Rule, Ruleset, begun, built}
pub use Rattle.ignore_rules.specs.RuleFile.{AddsAnswer, AddsFile}
pub use Rattle.ignore_rules.specs.Matchers.{BuildsAnswer, BuildsGlobal, IsMatcherOf}
pub use Rattle.ignore_rules.specs.Answer.{answer}
pub use Rattle.ignore_rules.specs.Parents.{answer_with_parents, is_under_root}
pub use Rattle.ignore_rules.specs.Overrides.{override_answer}
pub use Rattle.ignore_types.specs.TypeMatch.{Matcher, type_answer}
pub use Rattle.ignore_base.specs.Errors.{depth_of, io_fault, is_partial, without_fault}
