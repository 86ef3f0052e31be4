-- The answer of a list of rules.
use Rattle.std.specs.Prelude.{◌≡◌, ◌⊎◌, Bool, true, false, not, ◌&&◌, ◌||◌, List, [], ◌∷◌, ◌++◌, drop, All, if◌then◌else◌}
use Rattle.std.specs.Str.{chars}
use Rattle.ignore_base.specs.Text.{Chars, Path, Bytes}
use Rattle.ignore_base.specs.declared.match_result.Match.{Match}
use Rattle.ignore_base.specs.declared.match_result.Match.TheVariants.{None, Ignore, Whitelist}
use Rattle.ignore_glob.specs.DoesMatch.{does_match}
use Rattle.ignore_base.specs.Match.{match_or}
use Rattle.ignore_base.specs.Paths.{strip_of, trim_of, join_of, joined, directory_of, offset_below, IsName, IsCleanRoot}
use Rattle.ignore_glob.specs.Reading.{Matches}
use Rattle.ignore_rules.specs.Rules.{Rule, Building, built}

-- the rule matches the text, and a rule for directories only is asked for a directory
abbrev pub does_apply : Chars → Bool → Rule → Bool
does_apply text is_dir rule = (not rule.is_only_dir || is_dir) && does_match rule.reading text

-- the match of a rule that decides
abbrev pub decision_of : Rule → Match Rule
decision_of rule = if rule.is_whitelist then Whitelist rule else Ignore rule

-- the match of a rule where it applies, else none
abbrev pub rule_answer : Chars → Bool → Rule → Match Rule
rule_answer text is_dir rule = if does_apply text is_dir rule then decision_of rule else None

-- the match of the last rule that applies: a later rule overrides an earlier one
abbrev pub list_answer : List Rule → Chars → Bool → Match Rule
list_answer [] text is_dir = None
list_answer (rule ∷ rules) text is_dir = match_or (list_answer rules text is_dir) (rule_answer text is_dir rule)

-- the answer of rules relative to a root for a path
abbrev pub answer : Path → List Rule → Path → Bool → Match Rule
answer root rules path is_dir = list_answer rules (chars (strip_of root path)) is_dir

-- a matcher that is relative to a directory below a clean root: its answer for a path below the
-- directory is that of its rules for what follows the offset of the directory
abbrev pub AnswersByOffset : Type 0
AnswersByOffset =
    (root : Path) (names : List Bytes) (name : Bytes) (more : List Bytes) (builder : Building) (is_dir : Bool)
    → IsCleanRoot root → All IsName names → IsName name → All IsName more → builder.root ≡ trim_of (directory_of root names)
    → let path = join_of root (joined (names ++ (name ∷ more))) in
    answer (built builder).root (built builder).rules path is_dir
    ≡ list_answer (built builder).rules (chars (drop (offset_below (directory_of root names)) path)) is_dir

-- The same in other words, without an order in which rules are tried.

-- the rule matches the text, and a rule for directories only is asked for a directory
abbrev pub Applies : Chars → Bool → Rule → Type 0
Applies text is_dir rule = ((rule.is_only_dir ≡ false) ⊎ (is_dir ≡ true)) × Matches rule.reading text

-- the rule with the greatest index that applies
pub record IsLast (rules : List Rule) (text : Chars) (is_dir : Bool) (rule : Rule) : Type 0 where
  pub before : List Rule
  pub after : List Rule
  pub place : rules ≡ before ++ rule ∷ after
  pub applies : Applies text is_dir rule
  pub last : All (λ later. Applies text is_dir later → ⊥) after

-- the last rule that applies decides by its flag; no match where no rule applies
abbrev pub IsAnswer : List Rule → Chars → Bool → Match Rule → Type 0
IsAnswer rules text is_dir None = All (λ rule. Applies text is_dir rule → ⊥) rules
IsAnswer rules text is_dir (Ignore rule) = IsLast rules text is_dir rule × (rule.is_whitelist ≡ false)
IsAnswer rules text is_dir (Whitelist rule) = IsLast rules text is_dir rule × (rule.is_whitelist ≡ true)

-- for all rules, texts and kinds, the answer is that of the last rule that applies
abbrev pub AnswersByTheLast : Type 0
AnswersByTheLast = (rules : List Rule) (text : Chars) (is_dir : Bool) → IsAnswer rules text is_dir (list_answer rules text is_dir)
