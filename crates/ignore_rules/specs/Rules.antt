-- Rules, matchers and builders, and the rule or problem of a line that is added to a builder.
use Rattle.std.specs.Prelude.{◌≡◌, ℕ, Bool, true, false, List, [], ◌∷◌, ◌++◌, Option, None, Some, not, count_by, if◌then◌else◌, length}
use Rattle.std.specs.Prelude.{◌==◌}
use Rattle.std.specs.Str.{chars}
use Rattle.ignore_base.specs.Text.{Bytes, Path}
use Rattle.ignore_glob.specs.declared.glob.options.Options.{Options}
use Rattle.ignore_glob.specs.declared.glob.fault.GlobFault.{GlobFault}
use Rattle.ignore_glob.specs.Glob.{Tokens}
use Rattle.ignore_glob.specs.GlobFaults.{glob_fault_text}
use Rattle.ignore_base.specs.Paths.{trim_of}
use Rattle.ignore_base.specs.Problem.{Problem, glob}
use Rattle.ignore_glob.specs.Reading.{Reading}
use Rattle.ignore_glob.specs.Row.{Reads, IsFaulty}
use Rattle.ignore_rules.specs.Line.{ParsedLine, parsed_line}

-- where a rule comes from: the origin that was given with its line, and the number of that line,
-- from 1, where it was read from a file
pub record Origin : Type 0 where
  pub from : Option Path
  pub line : Option ℕ

-- the number of a line, of which 0 stands for none
abbrev pub number_of : ℕ → Option ℕ
number_of number = if number == 0 then None else Some number

-- the origin of a line that is added by itself: it has no number
abbrev pub unnumbered : Option Path → Origin
unnumbered from = record { from = from; line = None }

-- the origin of a line of the file at a path
abbrev pub line_of_file : Path → ℕ → Origin
line_of_file path number = record { from = Some path; line = Some number }

-- a rule: where it came from, the number of its line there, the line, its glob, its two flags, and
-- what the glob parses to
pub record Rule : Type 0 where
  pub from : Option Path
  pub line : Option ℕ
  pub original : Bytes
  pub actual : Bytes
  pub is_whitelist : Bool
  pub is_only_dir : Bool
  pub reading : Reading

-- how lines are parsed
pub record LineOptions : Type 0 where
  pub glob : Options
  pub git_trailing_spaces : Bool

-- a matcher: rules, and the directory that they are relative to
pub record Ruleset : Type 0 where
  pub root : Path
  pub rules : List Rule

-- a builder: the same, and how the next line is parsed
pub record Building : Type 0 where
  pub root : Path
  pub rules : List Rule
  pub options : LineOptions

-- the rule of a parsed line whose glob parses to this reading
abbrev pub read_rule : Origin → ParsedLine → Reading → Rule
read_rule origin w reading =
    record {
      from = origin.from;
      line = origin.line;
      original = w.original;
      actual = w.actual;
      is_whitelist = w.is_whitelist;
      is_only_dir = w.is_only_dir;
      reading = reading;
    }

-- a parsed line gives this rule; no parsed line gives none
abbrev pub GivesRule : LineOptions → Origin → Option ParsedLine → Option Rule → Type 0
GivesRule options origin None given = given ≡ None
GivesRule options origin (Some w) given =
    (tokens : Tokens) × Reads options.glob (chars w.actual) tokens
    × (given ≡ Some (read_rule origin w (record { tokens = tokens; case_insensitive = options.glob.case_insensitive })))

-- a parsed line is rejected with this problem: its glob is invalid
abbrev pub GivesProblem : LineOptions → Option ParsedLine → Problem → Type 0
GivesProblem options None problem = ⊥
GivesProblem options (Some w) problem =
    (f : GlobFault) × IsFaulty options.glob (chars w.actual) f × (problem ≡ glob (Some w.original) (glob_fault_text f))

-- the line is rejected with this problem
abbrev pub Refuses : LineOptions → Bytes → Problem → Type 0
Refuses options line problem = GivesProblem options (parsed_line options.git_trailing_spaces line) problem

-- the builder with one more rule, if any
abbrev pub with_rule : Building → Option Rule → Building
with_rule b None = b
with_rule b (Some rule) = record { root = b.root; rules = b.rules ++ rule ∷ []; options = b.options }

-- adding a parsed line of an origin, if any, leads from the old builder to the new one
abbrev pub AddsParsed : Building → Origin → Option ParsedLine → Building → Type 0
AddsParsed old origin parsed new = (given : Option Rule) × GivesRule old.options origin parsed given × (new ≡ with_rule old given)

-- adding a line of an origin leads from the old builder to the new one
abbrev pub AddsLineOf : Building → Origin → Bytes → Building → Type 0
AddsLineOf old origin line new = AddsParsed old origin (parsed_line old.options.git_trailing_spaces line) new

-- adding a line by itself leads from the old builder to the new one
abbrev pub AddsLine : Building → Option Path → Bytes → Building → Type 0
AddsLine old from line new = AddsLineOf old (unnumbered from) line new

-- the builder with other options of later lines
abbrev pub with_options : Building → LineOptions → Building
with_options b options = record { root = b.root; rules = b.rules; options = options }

-- a new builder: no rules, case sensitive, an unclosed class allowed, the original's rule for
-- trailing white space
abbrev pub begun : Path → Building
begun root =
    record {
      root = trim_of root;
      rules = [];
      options = record { glob = record { case_insensitive = false; allow_unclosed_class = true }; git_trailing_spaces = false };
    }

-- the builder of which later lines match both ASCII cases, or not
abbrev pub with_case_insensitive : Building → Bool → Building
with_case_insensitive b on =
    with_options b (record {
      glob = record { case_insensitive = on; allow_unclosed_class = b.options.glob.allow_unclosed_class };
      git_trailing_spaces = b.options.git_trailing_spaces;
    })

-- the builder of which later lines have, or have not, unclosed classes allowed
abbrev pub with_unclosed_class : Building → Bool → Building
with_unclosed_class b on =
    with_options b (record {
      glob = record { case_insensitive = b.options.glob.case_insensitive; allow_unclosed_class = on };
      git_trailing_spaces = b.options.git_trailing_spaces;
    })

-- the builder of which later lines have trailing spaces read by git's own rule, or not
abbrev pub with_git_trailing_spaces : Building → Bool → Building
with_git_trailing_spaces b on = with_options b (record { glob = b.options.glob; git_trailing_spaces = on })

-- the matcher of no rules
abbrev pub empty : Ruleset
empty = record { root = []; rules = [] }

-- the matcher of a builder: without rules it has no root either
abbrev pub built : Building → Ruleset
built b = if length b.rules == 0 then empty else record { root = b.root; rules = b.rules }

-- how many rules whitelist
abbrev pub whitelist_count : List Rule → ℕ
whitelist_count rules = count_by (λ rule. rule.is_whitelist) rules

-- how many rules ignore
abbrev pub ignore_count : List Rule → ℕ
ignore_count rules = count_by (λ rule. not rule.is_whitelist) rules
