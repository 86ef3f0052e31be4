-- What two lists of rules say of a question, as it is shown.
use Rattle.std.specs.Prelude.{ℕ, [], ◌∷◌, ◌++◌, List, Option, None, Some, slice_get, string_bytes, if◌then◌else◌}
use Rattle.ignore_base.specs.Text.{Path}
use Rattle.ignore_every.specs.Verdicts.{said_rule}
use Rattle.ignore_every.specs.declared.findings.Question.{Question}
use Rattle.ignore_every.specs.declared.said.Said.{Said}
use Rattle.ignore_rules.specs.Rules.{Rule}

-- the rule with an index, if there is one
abbrev pub rule_with : List Rule → Option ℕ → Option Rule
rule_with rules None = None
rule_with rules (Some index) = slice_get rules index

-- the rule by which a list says what it says, if one decides
abbrev pub rule_in : List Rule → Said → Option Rule
rule_in rules said = rule_with rules (said_rule said)

-- the path of a question as it is written: that of a directory with a slash after it
abbrev pub shown : Question → Path
shown q = string_bytes q.path ++ (if q.is_dir then 47 ∷ [] else [])
