-- How matches are numbered.
use Rattle.std.specs.Prelude.{ℕ, Result, Ok, Err}
use Rattle.ignore_base.specs.declared.match_result.Match.{Match}
use Rattle.ignore_base.specs.declared.match_result.Match.TheVariants.{Ignore, Whitelist}
use Rattle.ignore_base.specs.declared.match_result.Match.TheVariants.{None as NoMatch}
use Rattle.ignore_rules.specs.Rules.{Rule}
use Rattle.ignore_kept.specs.Stops.{stop_code}
use Rattle.ignore_kept.specs.declared.stopped.Stopped.{Stopped}

-- a match
abbrev pub match_code : Match Rule → ℕ
match_code NoMatch = 1
match_code (Ignore rule) = 2
match_code (Whitelist rule) = 3

-- what a question gives: a match, or why there is none
abbrev pub answer_code : Result (Match Rule) Stopped → ℕ
answer_code (Ok found) = match_code found
answer_code (Err stopped) = stop_code stopped
