-- Where a rule stands that decides on a path.
use Rattle.std.specs.Prelude.{◌≡◌, Bool, All, List, [], ◌∷◌, ◌++◌, Some, if◌then◌else◌}
use Rattle.std.specs.Str.{chars}
use Rattle.ignore_base.specs.Match.{inner, match_map, match_or}
use Rattle.ignore_base.specs.Paths.{trim_of}
use Rattle.ignore_base.specs.Text.{Path}
use Rattle.ignore_base.specs.declared.match_result.Match.{Match}
use Rattle.ignore_base.specs.declared.match_result.Match.TheVariants.{None}
use Rattle.ignore_rules.specs.Answer.{IsLast}
use Rattle.ignore_rules.specs.Rules.{Rule, Ruleset}
use Rattle.ignore_dir.specs.declared.dir.Rank.{Rank}
use Rattle.ignore_dir.specs.declared.dir.Rank.TheVariants.{Custom, Ignore, Gitignore, Exclude}
use Rattle.ignore_dir.specs.declared.outside.Outside.{Outside}
use Rattle.ignore_dir.specs.declared.settings.Settings.{Settings}
use Rattle.ignore_dir.specs.Lists.{Asked, list_of}
use Rattle.ignore_dir.specs.Ranks.{cut, dir_answer, explicit_answer, has_git, rules_answer}

-- where a rule stands: in a list of a directory, by the rank of the list and the path past the
-- directory; in the global file of git's configuration; or in a file that was added by name
pub data Site : Type 0 where
  in_directory : Rank → Path → Site
  in_global : Site
  in_explicit : Site

-- a rule, and where it stands
pub record Sited : Type 0 where
  pub site : Site
  pub rule : Rule

-- a rule at a site
abbrev pub sited : Site → Rule → Sited
sited site rule = record { site = site; rule = rule }

-- the answer of one list of a directory, with the rule where it stands
abbrev pub dir_sited : Rank → Bool → Asked → Match Sited
dir_sited rank is_dir link = match_map (sited (in_directory rank link.1)) (dir_answer rank is_dir link)

-- that of the nearest directory whose list for the rank has a match
abbrev pub nearest_sited : Rank → List Asked → Bool → Match Sited
nearest_sited rank [] is_dir = None
nearest_sited rank (link ∷ chain) is_dir = match_or (dir_sited rank is_dir link) (nearest_sited rank chain is_dir)

-- that of git's ranks over the part of a chain that they reach
abbrev pub git_sited : Ruleset → List Asked → Path → Bool → Match Sited
git_sited global chain path is_dir =
    match_or (nearest_sited Gitignore chain is_dir)
    (match_or (nearest_sited Exclude chain is_dir) (match_map (sited in_global) (rules_answer path is_dir global)))

-- that of git's ranks where they apply, up to the nearest mark, else none
abbrev pub git_ranks_sited : Settings → Ruleset → List Asked → Path → Bool → Match Sited
git_ranks_sited s global chain path is_dir = if has_git s chain then git_sited global (cut chain) path is_dir else None

-- that of the first rank that has a match
abbrev pub ranks_sited : Settings → Outside → List Asked → Path → Bool → Match Sited
ranks_sited s outside chain path is_dir =
    match_or (nearest_sited Custom chain is_dir)
    (match_or (nearest_sited Ignore chain is_dir)
    (match_or (git_ranks_sited s outside.global chain (trim_of path) is_dir)
    (match_map (sited in_explicit) (explicit_answer outside.explicit (trim_of path) is_dir))))

-- a rule decides for a rank over a chain: it is the last that applies of the list of a directory,
-- and no list of a nearer directory has a match
pub record StandsIn (rank : Rank) (chain : List Asked) (is_dir : Bool) (s : Sited) : Type 0 where
  pub nearer : List Asked
  pub link : Asked
  pub farther : List Asked
  pub split : chain ≡ nearer ++ link ∷ farther
  pub none : All (λ l. dir_answer rank is_dir l ≡ None) nearer
  pub site : s.site ≡ in_directory rank link.1
  pub last : IsLast (list_of rank link.0).rules (chars link.1) is_dir s.rule

-- the rule that a rank answers by is such a one
abbrev pub NearestDecides : Type 0
NearestDecides =
    (rank : Rank) (chain : List Asked) (is_dir : Bool) (s : Sited) → inner (nearest_sited rank chain is_dir) ≡ Some s
    → StandsIn rank chain is_dir s
