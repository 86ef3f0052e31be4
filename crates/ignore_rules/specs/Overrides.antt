-- The answer of the globs of a command line.
use Rattle.std.specs.Prelude.{Bool, not, nat_lt, ◌&&◌, List, Option, if◌then◌else◌}
use Rattle.std.specs.Prelude.{None as Nothing, Some as Only}
use Rattle.ignore_base.specs.Text.{Path}
use Rattle.ignore_base.specs.declared.match_result.Match.{Match}
use Rattle.ignore_base.specs.declared.match_result.Match.TheVariants.{None, Ignore, Whitelist}
use Rattle.ignore_rules.specs.Answer.{answer}
use Rattle.ignore_rules.specs.Rules.{Rule, Ruleset, ignore_count}

-- some glob whitelists: some line has no leading `!`
abbrev pub has_whitelist : List Rule → Bool
has_whitelist rules = nat_lt 0 (ignore_count rules)

-- the match of the rules, inverted: a glob that matches whitelists, and one with a leading `!`
-- ignores. Where no glob matches, the path is ignored if the flag says so
abbrev pub overridden : Bool → Match Rule → Match (Option Rule)
overridden hides None = if hides then Ignore Nothing else None
overridden hides (Ignore rule) = Whitelist (Only rule)
overridden hides (Whitelist rule) = Ignore (Only rule)

-- the answer of globs relative to a root for a path. Where some glob whitelists, a file that no
-- glob matches is ignored; a directory isn't
abbrev pub override_answer : Ruleset → Path → Bool → Match (Option Rule)
override_answer globs path is_dir = overridden (has_whitelist globs.rules && not is_dir) (answer globs.root globs.rules path is_dir)
