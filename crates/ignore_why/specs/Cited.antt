-- What decides on a path, by name.
use Rattle.std.specs.Prelude.{ℕ, ◌-◌, Bool, length, take, Option, None, Some, option_map, string_bytes}
use Rattle.ignore_base.specs.Text.{Bytes, Path}
use Rattle.ignore_types.specs.TypeMatch.{TypeGlob}
use Rattle.ignore_rules.specs.Rules.{Rule}
use Rattle.ignore_dir.specs.declared.dir.Rank.TheVariants as list
use Rattle.ignore_levels.specs.Reasons.{Why}
use Rattle.ignore_levels.specs.Reasons.Why.{by_override, by_rule, by_type, by_name}
use Rattle.ignore_levels.specs.Sites.{Site, Sited}
use Rattle.ignore_levels.specs.Sites.Site.{in_directory, in_global, in_explicit}
use Rattle.ignore_why.specs.declared.cause.Cause.{Cause}
use Rattle.ignore_why.specs.declared.cause.Cause.TheVariants as cause
use Rattle.ignore_why.specs.declared.cause.NamedRule.{NamedRule}
use Rattle.ignore_why.specs.declared.cause.NamedType.{NamedType}
use Rattle.ignore_why.specs.declared.cause.RuleRank.{RuleRank}
use Rattle.ignore_why.specs.declared.cause.RuleRank.TheVariants.{Custom, Ignore, Gitignore, Exclude, Global, Explicit}

-- a rule by name: in which list it stands, the directory of that list, where its line was read and
-- its number there, the line, and whether it whitelists
pub record Named : Type 0 where
  pub rank : RuleRank
  pub directory : Option Path
  pub from : Option Path
  pub line : Option ℕ
  pub original : Bytes
  pub is_whitelist : Bool

-- in which list a rule stands
abbrev pub rank_of : Site → RuleRank
rank_of (in_directory list.Custom past) = Custom
rank_of (in_directory list.Ignore past) = Ignore
rank_of (in_directory list.Gitignore past) = Gitignore
rank_of (in_directory list.Exclude past) = Exclude
rank_of in_global = Global
rank_of in_explicit = Explicit

-- the directory of the list in which a rule stands: what precedes the path past it in a text. It is
-- `/t/a/` in `/t/a/b/c` where the path past it is `b/c`
abbrev pub directory_of : Path → Site → Option Path
directory_of text (in_directory rank past) = Some (take (length text - length past) text)
directory_of text in_global = None
directory_of text in_explicit = None

-- a rule of the list of a rank, of a directory or of none, by name
abbrev pub named_rule : RuleRank → Option Path → Rule → Named
named_rule rank directory rule =
    record {
      rank = rank;
      directory = directory;
      from = rule.from;
      line = rule.line;
      original = rule.original;
      is_whitelist = rule.is_whitelist;
    }

-- a rule where it stands, by name
abbrev pub named : Path → Sited → Named
named text s = named_rule (rank_of s.site) (directory_of text s.site) s.rule

-- a file type by name, and one of its globs
pub record Typed : Type 0 where
  pub name : Bytes
  pub glob : Bytes

abbrev pub typed : TypeGlob → Typed
typed t = record { name = t.definition.name; glob = t.glob }

-- what decides, by name: a glob of the command line as it was written, or that none matches; a
-- rule; a file type with its glob, or that none matches; or a hidden name
pub data Cited : Type 0 where
  on_override : Option Bytes → Cited
  on_rule : Named → Cited
  on_type : Option Typed → Cited
  on_name : Cited

-- what decides, by name, in a text
abbrev pub cited : Path → Why → Cited
cited text (by_override rule) = on_override (option_map (λ (r : Rule). r.original) rule)
cited text (by_rule s) = on_rule (named text s)
cited text (by_type found) = on_type (option_map typed found)
cited text by_name = on_name

-- a named rule as plain data
abbrev pub named_of : NamedRule → Named
named_of r =
    record {
      rank = r.rank;
      directory = option_map string_bytes r.directory;
      from = option_map string_bytes r.source;
      line = r.line;
      original = string_bytes r.original;
      is_whitelist = r.is_whitelist;
    }

-- a named type as plain data
abbrev pub typed_of : NamedType → Typed
typed_of t = record { name = string_bytes t.name; glob = string_bytes t.glob }

-- a cause as plain data
abbrev pub cited_of : Cause → Cited
cited_of (cause.Override text) = on_override (option_map string_bytes text)
cited_of (cause.Rule rule) = on_rule (named_of rule)
cited_of (cause.Type found) = on_type (option_map typed_of found)
cited_of cause.Hidden = on_name
