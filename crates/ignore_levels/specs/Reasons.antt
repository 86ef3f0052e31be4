-- What decides on a path over the chain of a place.
use Rattle.std.specs.Str.{IsCharBoundary}
use Rattle.std.specs.Prelude.{ℕ, Bool, ◌&&◌, nat_lt, All, List, [], ◌∷◌, drop, Option, if◌then◌else◌}
use Rattle.ignore_base.specs.Match.{match_map, match_or}
use Rattle.ignore_base.specs.Paths.{file_name_of, trim_of}
use Rattle.ignore_base.specs.Text.{Path}
use Rattle.ignore_base.specs.declared.match_result.Match.{Match}
use Rattle.ignore_base.specs.declared.match_result.Match.TheVariants.{None, Ignore, Whitelist}
use Rattle.ignore_types.specs.TypeMatch.{TypeGlob, type_answer}
use Rattle.ignore_rules.specs.Overrides.{override_answer}
use Rattle.ignore_rules.specs.Rules.{Rule}
use Rattle.ignore_dir.specs.declared.outside.Outside.{Outside}
use Rattle.ignore_dir.specs.declared.settings.Settings.{Settings}
use Rattle.ignore_dir.specs.Lists.{Asked, IsAfterSlash, Placed, asked_in}
use Rattle.ignore_dir.specs.Verdict.{is_dotted}
use Rattle.ignore_levels.specs.declared.list.Place.{Place}
use Rattle.ignore_levels.specs.declared.list.Slot.{Slot}
use Rattle.ignore_levels.specs.declared.ranks.Origin.{Origin}
use Rattle.ignore_levels.specs.declared.ranks.Origin.TheVariants as origin
use Rattle.ignore_levels.specs.declared.ranks.Ruling.{Ruling}
use Rattle.ignore_levels.specs.declared.reason.Reason.{Reason}
use Rattle.ignore_levels.specs.declared.reason.Reason.TheVariants as reason
use Rattle.ignore_levels.specs.Levels.{IsChain}
use Rattle.ignore_levels.specs.Sites.{Site, Sited, in_directory, in_explicit, in_global, ranks_sited}

-- P of the chain of a place, where each of its offsets is directly after a slash of a text
abbrev pub OverChain : List Slot → Option Place → Path → (List Placed → Type 0) → Type 0
OverChain slots place text P = (chain : List Placed) → IsChain slots place chain → All (λ p. IsAfterSlash text p.1) chain → P chain

-- the front of a chain whose offsets are not below a floor
abbrev pub down_to : ℕ → List Placed → List Placed
down_to floor [] = []
down_to floor (p ∷ chain) = if nat_lt p.1 floor then [] else p ∷ down_to floor chain

-- where a rule stands, by the text of which the paths past directories are the rests
abbrev pub site_of : Path → Origin → Site
site_of text (origin.Directory rank offset) = in_directory rank (drop offset text)
site_of text origin.Global = in_global
site_of text origin.Explicit = in_explicit

-- the rule that decides, where it stands
abbrev pub sited_of : Path → Ruling → Sited
sited_of text r = record { site = site_of text r.origin; rule = r.glob.now }

-- what decides on a path: a glob of the command line, or that none matches where some glob
-- whitelists; a rule where it stands; a chosen file type, or that none matches where a type is
-- selected; or a hidden name
pub data Why : Type 0 where
  by_override : Option Rule → Why
  by_rule : Sited → Why
  by_type : Option TypeGlob → Why
  by_name : Why

-- what decides where no override does, by the answers of the ranks and of the types, and whether
-- the name is ignored for its dot: a rule that ignores, else a type, else a rule that whitelists,
-- else the name
abbrev pub file_why : Match Sited → Match (Option TypeGlob) → Bool → Match Why
file_why (Ignore rule) types hides = Ignore (by_rule rule)
file_why (Whitelist rule) types hides = match_or (match_map by_type types) (Whitelist (by_rule rule))
file_why None types hides = match_or (match_map by_type types) (if hides then Ignore by_name else None)

-- the same by the settings, the rules from outside and a chain of directories
abbrev pub file_reason : Settings → Outside → List Asked → Path → Bool → Match Why
file_reason s o chain path is_dir =
    file_why (ranks_sited s o chain path is_dir) (type_answer o.types.choices is_dir (file_name_of (trim_of path)))
    (s.hidden && is_dotted (file_name_of path))

-- what decides on a path, and whether it ignores or whitelists it: an override before all else
abbrev pub why : Settings → Outside → List Asked → Path → Bool → Match Why
why s o chain path is_dir =
    match_or (match_map by_override (override_answer o.overrides (trim_of path) is_dir)) (file_reason s o chain path is_dir)

-- the same over a chain by offsets in a text
unfoldable pub placed_why : Settings → Outside → List Placed → Path → Path → Bool → Match Why
placed_why s o chain text path is_dir = why s o (asked_in text chain) path is_dir

-- a reason as plain data, by the text that was asked about
abbrev pub why_of : Path → Reason → Why
why_of text (reason.Override glob) = by_override glob
why_of text (reason.Rule rule) = by_rule (sited_of text rule)
why_of text (reason.Type glob) = by_type glob
why_of text reason.Hidden = by_name

-- the path past the directory of a rule begins at a boundary of characters of the text
abbrev pub IsAtBoundary : Path → Origin → Type 0
IsAtBoundary text (origin.Directory rank offset) = IsCharBoundary text offset
IsAtBoundary text origin.Global = Unit {0}
IsAtBoundary text origin.Explicit = Unit {0}

-- the same where a rule decides
abbrev pub IsRulingInside : Path → Match Ruling → Type 0
IsRulingInside text None = Unit {0}
IsRulingInside text (Ignore r) = IsAtBoundary text r.origin
IsRulingInside text (Whitelist r) = IsAtBoundary text r.origin

-- the same of a reason, which may be a rule
abbrev pub IsReasonInside : Path → Reason → Type 0
IsReasonInside text (reason.Override glob) = Unit {0}
IsReasonInside text (reason.Rule r) = IsAtBoundary text r.origin
IsReasonInside text (reason.Type glob) = Unit {0}
IsReasonInside text reason.Hidden = Unit {0}

-- the same where a reason decides
abbrev pub IsInside : Path → Match Reason → Type 0
IsInside text None = Unit {0}
IsInside text (Ignore r) = IsReasonInside text r
IsInside text (Whitelist r) = IsReasonInside text r
