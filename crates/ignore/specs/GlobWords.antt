-- The words of clauses on globs and on sets of patterns, in one place.
pub use Rattle.ignore_glob.specs.DoesMatch.{does_match}
pub use Rattle.ignore_glob.specs.Glob.{Tokens}
pub use Rattle.ignore_glob.specs.GlobFaults.{IfFault, glob_fault_number}
pub use Rattle.ignore_glob.specs.Lexing.{Lexed, Lexeme}
pub use Rattle.ignore_glob.specs.Matches.{glob_matches}
pub use Rattle.ignore_glob.specs.Positions.{CountsMarks, Entry, HasNoDuplicates, IsMarked, first, positions, table, the_end}
pub use Rattle.ignore_glob.specs.Reading.{Matches, Reading}
pub use Rattle.ignore_glob.specs.Row.{IsFaulty, Reads}
pub use Rattle.ignore_glob.specs.Words.{has_braces}
pub use Rattle.ignore_glob.specs.declared.glob.fault.GlobFault.{GlobFault}
pub use Rattle.ignore_glob.specs.declared.glob.options.Options.{Options}
pub use Rattle.ignore_set.specs.Sets.{AreShort, IsLastMatch, members, pass_bound}
