-- How a rule is seen by an index of rules.
use Rattle.std.specs.Prelude.{List, map}
use Rattle.ignore_set.specs.Sets.{Member, AreShort}
use Rattle.ignore_rules.specs.Rules.{Rule}

-- the pattern of a rule, and whether it is for directories only
abbrev pub rule_member : Rule → Member
rule_member rule = record { reading = rule.reading; only_dir = rule.is_only_dir }

-- the globs of these rules are without braces and have at most 62 positions each: to ask them no
-- memory is requested
abbrev pub AreShortRules : List Rule → Type 0
AreShortRules rules = AreShort (map rule_member rules)
