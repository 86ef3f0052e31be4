-- How reasons and rules are written: as `git check-ignore -v -n` writes them.
use Rattle.std.specs.Prelude.{ℕ, Bool, true, false, [], ◌∷◌, ◌++◌, codes, Option, None, Some, unwrap_or, if◌then◌else◌}
use Rattle.std.specs.Fmt.{decimal}
use Rattle.ignore_base.specs.Paths.{strip_of}
use Rattle.ignore_base.specs.Text.{Bytes, Path}
use Rattle.ignore_base.specs.declared.match_result.Match.{Match}
use Rattle.ignore_base.specs.declared.match_result.Match.TheVariants as m
use Rattle.ignore_why.specs.Cited.{Cited, Named}
use Rattle.ignore_why.specs.Cited.Cited.{on_override, on_rule, on_type, on_name}
use Rattle.ignore_why.specs.QueryWhy.{QueryWhy}
use Rattle.ignore_why.specs.QueryWhy.QueryWhy.{unasked, unruled, too_shallow, too_deep, decided, larger, inside}
use Rattle.ignore_why.specs.Texts.{query_why_text}
use Rattle.ig_options.specs.Quotes.{quoted}

-- a path as a field: as it is where fields end in NUL, else quoted where it must be
abbrev pub field : Bool → Path → Bytes
field null path = if null then path else quoted path

-- what separates the three fields of a rule
abbrev pub between : Bool → Bytes
between null = if null then 0 ∷ [] else codes ":"

-- what separates a rule and a path, and what ends a record
abbrev pub before_path : Bool → Bytes
before_path null = if null then 0 ∷ [] else 9 ∷ []

abbrev pub at_end : Bool → Bytes
at_end null = if null then 0 ∷ [] else 10 ∷ []

-- a source relative to a directory, where one is given
abbrev pub relative : Option Path → Path → Path
relative None source = source
relative (Some base) source = strip_of base source

-- the number of a line, if there is one
abbrev pub number_text : Option ℕ → Bytes
number_text None = []
number_text (Some number) = decimal number

-- the three fields of a rule: its source, the number of its line, and the rule
abbrev pub rule_fields : Option Path → Bool → Path → Option ℕ → Bytes → Bytes
rule_fields base null source line pattern =
    field null (relative base source) ++ (between null ++ (number_text line ++ (between null ++ pattern)))

-- the rule that is a cause, if one is
abbrev pub rule_cited : Cited → Option Named
rule_cited (on_override text) = None
rule_cited (on_rule rule) = Some rule
rule_cited (on_type found) = None
rule_cited on_name = None

abbrev pub rule_in : Match Cited → Option Named
rule_in m.None = None
rule_in (m.Ignore cause) = rule_cited cause
rule_in (m.Whitelist cause) = rule_cited cause

-- the rule that decides, if one does
abbrev pub rule_of : QueryWhy → Option Named
rule_of unasked = None
rule_of unruled = None
rule_of too_shallow = None
rule_of too_deep = None
rule_of (decided said) = rule_in said
rule_of (larger size most) = None
rule_of (inside dir said) = rule_in said

-- something decides
abbrev pub is_match : Match Cited → Bool
is_match m.None = false
is_match (m.Ignore cause) = true
is_match (m.Whitelist cause) = true

abbrev pub is_decided : QueryWhy → Bool
is_decided unasked = false
is_decided unruled = false
is_decided too_shallow = true
is_decided too_deep = true
is_decided (decided said) = is_match said
is_decided (larger size most) = true
is_decided (inside dir said) = is_match said

-- three fields without a rule: the last is the word of what decides, or empty
abbrev pub word_fields : Bool → QueryWhy → Bytes
word_fields null why = between null ++ (between null ++ (if is_decided why then query_why_text why else []))

-- the three fields of what decides
abbrev pub reason_fields : Option Path → Bool → QueryWhy → Option Named → Bytes
reason_fields base null why None = word_fields null why
reason_fields base null why (Some rule) = rule_fields base null (unwrap_or rule.from []) rule.line rule.original

-- the first two of three fields that no rule has: they are empty
abbrev pub no_rule : Bool → Bytes
no_rule null = between null ++ between null

-- a path after what is said of it
abbrev pub after_path : Bool → Path → Bytes
after_path null path = before_path null ++ (field null path ++ at_end null)

-- a path after its reason
abbrev pub reasoned : Option Path → Bool → QueryWhy → Path → Bytes
reasoned base null why path =
    reason_fields base null why (rule_of why) ++ (before_path null ++ (field null path ++ at_end null))
