-- Rules of files, by where they stand.
use Rattle.std.specs.Prelude.{◌≡◌, ◌↔◌, ℕ, ◌==◌, ◌&&◌, not, Bool, List, [], ◌++◌, map, Contains, Option, None, Some, is_some, option_map, string_bytes, if◌then◌else◌}
use Rattle.std.specs.BTreeMap.{BTreeMap, get, get_by_text}
use Rattle.std.specs.List.{filter, flat_map}
use Rattle.std.specs.Option.{option_or}
use Rattle.std.specs.Ordering.{nat_cmp}
use Rattle.std.specs.Str.{bytes_eq}
use Rattle.std.specs.declared.string.String.{String}
use Rattle.ignore_base.specs.Text.{Bytes, Path}
use Rattle.ignore_why.specs.Cited.{Named}
use Rattle.ig_commands.specs.Form.{at_end, rule_fields}
use Rattle.ig_commands.specs.Unused.{AreInOrder, FileRule}
use Rattle.ig_commands.specs.declared.rules.FileRules.{FileRules}

-- the rule at a line of a file, if one stands there
abbrev pub line_of : {Y : Type 0} → Option (BTreeMap ℕ (String Y)) → ℕ → Option Bytes
line_of None line = None
line_of (Some file) line = option_map string_bytes (get nat_cmp file line)

abbrev pub rule_at : FileRules → Path → ℕ → Option Bytes
rule_at rules source line = line_of (get_by_text rules.files source) line

-- what stands at a line of a file where this rule alone does
abbrev pub alone_at : Path → ℕ → Bytes → Path → ℕ → Option Bytes
alone_at from number text source line = if bytes_eq from source && number == line then Some text else None

-- the same of a rule that may have no file, or no line there
abbrev pub given_at : Option Path → Option ℕ → Bytes → Path → ℕ → Option Bytes
given_at None number text source line = None
given_at (Some from) None text source line = None
given_at (Some from) (Some number) text source line = alone_at from number text source line

-- the rules become these by what stands at each place: what stood there, or else what is given
abbrev pub Grows : (Path → ℕ → Option Bytes) → FileRules → FileRules → Type 0
Grows given old new =
    (source : Path) (line : ℕ) → rule_at new source line ≡ option_or (rule_at old source line) (given source line)

-- a rule is added, where it stands in a file; one that stands there already stays
abbrev pub Adds : Named → FileRules → FileRules → Type 0
Adds rule old new = Grows (given_at rule.from rule.line rule.original) old new

-- a rule that a file has at a line
abbrev pub file_rule : Path → ℕ → Bytes → FileRule
file_rule source line pattern = record { source = source; line = line; pattern = pattern }

-- none of these stands at the place of a rule
abbrev pub is_free : FileRules → FileRule → Bool
is_free others r = not (is_some (rule_at others r.source r.line))

-- the rules of a file, by its lines, where none of others stands
abbrev pub left_of : {Y : Type 0} → FileRules → Path → List (ℕ × String Y) → List FileRule
left_of others source entries = filter (is_free others) (map (λ e. file_rule source e.0 (string_bytes e.1)) entries)

-- the rules of all files
abbrev pub all_left : {X Y : Type 0} → FileRules → List (String X × BTreeMap ℕ (String Y)) → List FileRule
all_left others files = flat_map (λ f. left_of others (string_bytes f.0) f.1.entries) files

-- these are the rules that stand where none of others does, in order
pub record AreWithout (rules others : FileRules) (all : List FileRule) : Type 0 where
  pub are : (r : FileRule)
      → Contains all r ↔ ((rule_at rules r.source r.line ≡ Some r.pattern) × (rule_at others r.source r.line ≡ None))
  pub in_order : AreInOrder all

-- what is written of a rule: its fields and what they end in, or nothing
abbrev pub rule_line : Option Path → Bool → Bool → FileRule → Bytes
rule_line base null is_written r =
    if is_written then rule_fields base null r.source (Some r.line) r.pattern ++ at_end null else []
