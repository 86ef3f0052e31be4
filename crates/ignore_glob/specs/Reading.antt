-- A parsed pattern: its tokens, and the texts that it matches.
use Rattle.std.specs.Prelude.{Bool}
use Rattle.ignore_base.specs.Text.{Chars}
use Rattle.ignore_glob.specs.Glob.{Tokens}
use Rattle.ignore_glob.specs.Matches.{glob_matches}

-- a parsed pattern: its tokens, and whether ASCII case is folded
pub record Reading : Type 0 where
  pub tokens : Tokens
  pub case_insensitive : Bool

-- the pattern matches the text, a list of characters
abbrev pub Matches : Reading → Chars → Type 0
Matches reading text = glob_matches reading.case_insensitive reading.tokens text
