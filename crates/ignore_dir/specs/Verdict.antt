-- The verdict on a path: overrides, ranks, types and hidden names together.
use Rattle.std.specs.Prelude.{ℕ, Bool, true, false, ◌&&◌, ◌==◌, List, [], ◌∷◌, Option, if◌then◌else◌}
use Rattle.std.specs.Prelude as std
use Rattle.ignore_base.specs.Text.{Bytes, Path}
use Rattle.ignore_base.specs.Paths.{file_name_of, trim_of}
use Rattle.ignore_base.specs.declared.match_result.Match.{Match}
use Rattle.ignore_base.specs.declared.match_result.Match.TheVariants as m
use Rattle.ignore_rules.specs.Overrides.{override_answer}
use Rattle.ignore_types.specs.TypeMatch.{type_answer}
use Rattle.ignore_dir.specs.declared.outside.Outside.{Outside}
use Rattle.ignore_dir.specs.declared.settings.Settings.{Settings}
use Rattle.ignore_dir.specs.declared.verdict.Verdict.{Verdict}
use Rattle.ignore_dir.specs.declared.verdict.Verdict.TheVariants.{None, Ignore, Whitelist}
use Rattle.ignore_dir.specs.Lists.{Asked, Placed, asked_in}
use Rattle.ignore_dir.specs.Ranks.{ranks_answer}

-- a match without what decided
abbrev pub verdict_of : {T : Type 0} → Match T → Verdict
verdict_of m.None = None
verdict_of (m.Ignore x) = Ignore
verdict_of (m.Whitelist x) = Whitelist

-- the first, unless it is none
abbrev pub or_else : Verdict → Verdict → Verdict
or_else None other = other
or_else Ignore other = Ignore
or_else Whitelist other = Whitelist

-- the verdict ignores
abbrev pub is_ignore : Verdict → Bool
is_ignore None = false
is_ignore Ignore = true
is_ignore Whitelist = false

-- what the ranks ignore is ignored; else the types decide, then the ranks, then a hidden name
abbrev pub without_override : Verdict → Verdict → Bool → Verdict
without_override Ignore by_types hides = Ignore
without_override Whitelist by_types hides = or_else by_types Whitelist
without_override None by_types hides = or_else by_types (if hides then Ignore else None)

-- the file name begins with a dot
abbrev pub is_dotted : Option Bytes → Bool
is_dotted std.None = false
is_dotted (std.Some []) = false
is_dotted (std.Some (c ∷ cs)) = c == 46

-- the verdict where no override decides
abbrev pub file_verdict : Settings → Outside → List Asked → Path → Bool → Verdict
file_verdict s outside chain path is_dir =
    without_override (verdict_of (ranks_answer s outside chain path is_dir))
    (verdict_of (type_answer outside.types.choices is_dir (file_name_of (trim_of path))))
    (s.hidden && is_dotted (file_name_of path))

-- the verdict on a path by the settings, the rules from outside and a chain of directories: an
-- override decides before all else
abbrev pub verdict : Settings → Outside → List Asked → Path → Bool → Verdict
verdict s outside chain path is_dir =
    or_else (verdict_of (override_answer outside.overrides (trim_of path) is_dir)) (file_verdict s outside chain path is_dir)

-- the same over a chain by offsets in a text
unfoldable pub placed_verdict : Settings → Outside → List Placed → Path → Path → Bool → Verdict
placed_verdict s outside chain text path is_dir = verdict s outside (asked_in text chain) path is_dir
