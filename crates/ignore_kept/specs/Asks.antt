-- What C is told of a path, by the rules of a handle.
use Rattle.std.specs.Prelude.{◌≡◌, ℕ, Bool, true, false, [], ◌++◌, Option, Some, None, Result, Ok, Err, is_some, length, slice_get}
use Rattle.std.specs.Str.{IsUtf8}
use Rattle.ignore_base.specs.Text.{Bytes, Path}
use Rattle.ignore_base.specs.declared.match_result.Match.{Match}
use Rattle.ignore_base.specs.declared.match_result.Match.TheVariants.{Ignore, Whitelist}
use Rattle.ignore_base.specs.declared.match_result.Match.TheVariants.{None as NoMatch}
use Rattle.ignore_rules.specs.Answer.{answer, decision_of}
use Rattle.ignore_rules.specs.Parents.{answer_with_parents, is_under_root}
use Rattle.ignore_rules.specs.Rules.{Rule, Ruleset, ignore_count, whitelist_count}
use Rattle.ignore_kept.specs.AsGit.{answer_as_git}
use Rattle.ignore_kept.specs.Codes.{answer_code}
use Rattle.ignore_kept.specs.declared.ask.Manner.{Manner}
use Rattle.ignore_kept.specs.declared.ask.Manner.TheVariants.{Alone, WithParents, AsGit}
use Rattle.ignore_kept.specs.declared.kept.Kept.{Kept}
use Rattle.ignore_kept.specs.declared.kept.Kept.TheVariants as keeps
use Rattle.ignore_kept.specs.declared.rule.Counts.{Counts}
use Rattle.ignore_kept.specs.declared.rule.Reason.{Reason}
use Rattle.ignore_kept.specs.declared.stopped.Stopped.{Stopped}
use Rattle.ignore_kept.specs.declared.stopped.Stopped.TheVariants.{NotUtf8, Memory, Misused, Outside}

-- the matcher that a handle keeps, if it keeps one
abbrev pub rules_of : Kept → Option Ruleset
rules_of (keeps.Lines lines) = None
rules_of (keeps.Tree tree) = None
rules_of (keeps.Setup setup) = None
rules_of (keeps.Matcher matcher) = None
rules_of (keeps.Walk walk) = None
rules_of (keeps.Guide guided) = None
rules_of (keeps.Findings found) = None
rules_of keeps.Lent = None
rules_of (keeps.Rules rules) = Some rules

-- it keeps one
abbrev pub KeepsRules : Kept → Type 0
KeepsRules kept = (rules : Ruleset) × (rules_of kept ≡ Some rules)

-- what these rules say of a path: by itself, or else its nearest parent that has a match, or as git
-- asks, from the root down
abbrev pub said : Ruleset → Manner → Path → Bool → Match Rule
said rules Alone path is_dir = answer rules.root rules.rules path is_dir
said rules WithParents path is_dir = answer_with_parents rules.root rules.rules path is_dir
said rules AsGit path is_dir = answer_as_git rules path is_dir

-- asking a handle in a manner about a path gives this match, or this reason why not
abbrev pub Asks : Kept → Manner → Bytes → Bool → Result (Match Rule) Stopped → Type 0
Asks kept manner path is_dir (Ok found) =
    (rules : Ruleset) × (rules_of kept ≡ Some rules) × (manner ≡ WithParents → is_under_root rules path ≡ true)
    × (found ≡ said rules manner path is_dir)
Asks kept manner path is_dir (Err NotUtf8) = ¬ (IsUtf8 path)
Asks kept manner path is_dir (Err Memory) = Unit {0}
Asks kept manner path is_dir (Err Misused) = rules_of kept ≡ None
Asks kept manner path is_dir (Err Outside) =
    (rules : Ruleset) × (rules_of kept ≡ Some rules) × (manner ≡ WithParents) × (is_under_root rules path ≡ false)
Asks kept manner path is_dir (Err other) = ⊥

-- asking gives this number
abbrev pub AsksCode : Kept → Manner → Bytes → Bool → ℕ → Type 0
AsksCode kept manner path is_dir code = (given : Result (Match Rule) Stopped) × Asks kept manner path is_dir given × (code ≡ answer_code given)

-- the source of a rule; empty where it has none
abbrev pub source_text : Option Path → Bytes
source_text None = []
source_text (Some path) = path

-- the number of a line; 0 where there is none
abbrev pub number_of : Option ℕ → ℕ
number_of None = 0
number_of (Some line) = line

-- how a rule is told: the number of its line, the lengths of its source, of its line and of its
-- glob, and two flags
abbrev pub reason_of : Rule → Reason
reason_of rule =
    record {
      line = number_of rule.line;
      source = length (source_text rule.from);
      pattern = length rule.original;
      glob = length rule.actual;
      has_source = is_some rule.from;
      is_only_dir = rule.is_only_dir;
    }

-- where no rule decides
abbrev pub no_reason : Reason
no_reason = record { line = 0; source = 0; pattern = 0; glob = 0; has_source = false; is_only_dir = false }

abbrev pub match_reason : Match Rule → Reason
match_reason NoMatch = no_reason
match_reason (Ignore rule) = reason_of rule
match_reason (Whitelist rule) = reason_of rule

abbrev pub reason_given : Result (Match Rule) Stopped → Reason
reason_given (Ok found) = match_reason found
reason_given (Err stopped) = no_reason

-- the texts of a rule: its source, its line, its glob
abbrev pub rule_text : Rule → Bytes
rule_text rule = source_text rule.from ++ rule.original ++ rule.actual

abbrev pub match_text : Match Rule → Bytes
match_text NoMatch = []
match_text (Ignore rule) = rule_text rule
match_text (Whitelist rule) = rule_text rule

abbrev pub text_given : Result (Match Rule) Stopped → Bytes
text_given (Ok found) = match_text found
text_given (Err stopped) = []

-- asking gives this number, this reason and these texts
abbrev pub Explains : Kept → Manner → Bytes → Bool → ℕ → Reason → Bytes → Type 0
Explains kept manner path is_dir code reason text =
    (given : Result (Match Rule) Stopped) × Asks kept manner path is_dir given × (code ≡ answer_code given)
    × (reason ≡ reason_given given) × (text ≡ text_given given)

-- the rule at an index, with what it does; none where there are no more rules than that
abbrev pub listed : Option Rule → Match Rule
listed None = NoMatch
listed (Some rule) = decision_of rule

-- asking a handle for the rule at an index gives this, or this reason why not
abbrev pub Lists : Kept → ℕ → Result (Match Rule) Stopped → Type 0
Lists kept index (Ok found) = (rules : Ruleset) × (rules_of kept ≡ Some rules) × (found ≡ listed (slice_get rules.rules index))
Lists kept index (Err Memory) = Unit {0}
Lists kept index (Err Misused) = rules_of kept ≡ None
Lists kept index (Err other) = ⊥

-- asking gives this number, these parts of the rule and these texts
abbrev pub TellsRule : Kept → ℕ → ℕ → Reason → Bytes → Type 0
TellsRule kept index code reason text =
    (given : Result (Match Rule) Stopped) × Lists kept index given × (code ≡ answer_code given) × (reason ≡ reason_given given)
    × (text ≡ text_given given)

-- how many rules ignore, and how many whitelist
abbrev pub counts_of : Ruleset → Counts
counts_of rules = record { ignores = ignore_count rules.rules; whitelists = whitelist_count rules.rules }

-- counting gives this number and these counts
abbrev pub Counted : Kept → ℕ → Counts → Type 0
Counted (keeps.Rules rules) code counts = (code ≡ 0) × (counts ≡ counts_of rules)
Counted (keeps.Lines lines) code counts = (code ≡ 9) × (counts ≡ record { ignores = 0; whitelists = 0 })
Counted (keeps.Tree tree) code counts = (code ≡ 9) × (counts ≡ record { ignores = 0; whitelists = 0 })
Counted (keeps.Setup setup) code counts = (code ≡ 9) × (counts ≡ record { ignores = 0; whitelists = 0 })
Counted (keeps.Matcher matcher) code counts = (code ≡ 9) × (counts ≡ record { ignores = 0; whitelists = 0 })
Counted (keeps.Guide guided) code counts = (code ≡ 9) × (counts ≡ record { ignores = 0; whitelists = 0 })
Counted (keeps.Findings found) code counts = (code ≡ 9) × (counts ≡ record { ignores = 0; whitelists = 0 })
Counted (keeps.Walk walk) code counts = (code ≡ 9) × (counts ≡ record { ignores = 0; whitelists = 0 })
Counted keeps.Lent code counts = (code ≡ 9) × (counts ≡ record { ignores = 0; whitelists = 0 })
