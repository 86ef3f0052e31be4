-- Why what becomes of an entry is that.
use Rattle.std.specs.Prelude.{ℕ, Bool, nat_lt, Option, None, Some, if◌then◌else◌}
use Rattle.ignore_base.specs.Text.{Bytes}
use Rattle.ignore_base.specs.declared.match_result.Match.{Match}
use Rattle.ignore_dir.specs.Limits.{is_beyond, size_limit}
use Rattle.ignore_dir.specs.Steps.{Reached, entry}
use Rattle.ignore_dir.specs.Verdict.{verdict_of}
use Rattle.ignore_dir.specs.declared.outside.Outside.{Outside}
use Rattle.ignore_dir.specs.declared.settings.Settings.{Settings}
use Rattle.ignore_why.specs.Cited.{Cited}
use Rattle.ignore_why.specs.QueryWhy.{QueryWhy, why_beyond}
use Rattle.ignore_why.specs.QueryWhy.QueryWhy.{decided as by_rules, larger}
use Rattle.ignore_guide.specs.Guide.{cause_at}

-- why, within the limits on depth: a known size above a limit; else what the rules say
abbrev pub why_within : Option ℕ → Option ℕ → Match Cited → QueryWhy
why_within None size said = by_rules said
why_within (Some most) None said = by_rules said
why_within (Some most) (Some size) said = if nat_lt most size then larger size most else by_rules said

-- why what becomes of an entry of the directory that is reached is that, so many names below the root:
-- it is beyond the limits on depth; else its size is above the limit, or the rules say so
abbrev pub decided_why : Settings → Outside → ℕ → Reached → Bytes → Bool → Option ℕ → QueryWhy
decided_why s o depth at name is_dir size =
    let said = cause_at s o (entry at name) is_dir in
    if is_beyond s depth is_dir then why_beyond s depth else why_within (size_limit s is_dir (verdict_of said)) size said
