-- What a matcher keeps: rules, shared with an index or without one.
use Rattle.ignore_rules.specs.declared.gitignore.kept.Kept.{Kept}
use Rattle.ignore_rules.specs.declared.gitignore.kept.Kept.TheVariants.{Shared, Alone}
use Rattle.ignore_rules.specs.Rules.{Ruleset}

-- the rules that are kept
abbrev pub kept_rules : Kept → Ruleset
kept_rules (Shared kept) = kept.value
kept_rules (Alone rules) = rules
