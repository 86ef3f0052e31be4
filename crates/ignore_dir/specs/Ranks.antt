-- What the ranks answer over a chain of directories, the nearest first.
use Rattle.std.specs.Prelude.{Bool, not, ◌||◌, List, [], ◌∷◌, map, reverse, if◌then◌else◌}
use Rattle.std.specs.List.{list_any}
use Rattle.std.specs.Str.{chars}
use Rattle.ignore_base.specs.Text.{Path}
use Rattle.ignore_base.specs.Paths.{trim_of}
use Rattle.ignore_base.specs.declared.match_result.Match.{Match}
use Rattle.ignore_base.specs.declared.match_result.Match.TheVariants.{None}
use Rattle.ignore_rules.specs.Answer.{answer, list_answer}
use Rattle.ignore_rules.specs.Parents.{first_match}
use Rattle.ignore_rules.specs.Rules.{Rule, Ruleset}
use Rattle.ignore_dir.specs.declared.dir.Rank.{Rank}
use Rattle.ignore_dir.specs.declared.dir.Rank.TheVariants.{Custom, Ignore, Gitignore, Exclude}
use Rattle.ignore_dir.specs.declared.outside.Outside.{Outside}
use Rattle.ignore_dir.specs.declared.settings.Settings.{Settings}
use Rattle.ignore_dir.specs.Lists.{Asked, list_of}

-- the answer of one list of a directory for the path past it
abbrev pub dir_answer : Rank → Bool → Asked → Match Rule
dir_answer rank is_dir link = list_answer (list_of rank link.0).rules (chars link.1) is_dir

-- the nearest directory whose list for the rank has a match decides
abbrev pub nearest : Rank → List Asked → Bool → Match Rule
nearest rank chain is_dir = first_match (map (dir_answer rank is_dir) chain)

-- the chain up to its first marked directory, that one included
abbrev pub cut : List Asked → List Asked
cut [] = []
cut (link ∷ chain) = link ∷ (if link.0.mark then [] else cut chain)

-- some directory of the chain has a mark
abbrev pub has_mark : List Asked → Bool
has_mark chain = list_any (λ link. link.0.mark) chain

-- git's rules apply: no repository is asked for, or some directory of the chain has a mark
abbrev pub has_git : Settings → List Asked → Bool
has_git s chain = not s.require_git || has_mark chain

-- what the rules of a matcher answer for a path
abbrev pub rules_answer : Path → Bool → Ruleset → Match Rule
rules_answer path is_dir g = answer g.root g.rules path is_dir

-- of the files added by name, the last one that has a match decides
abbrev pub explicit_answer : List Ruleset → Path → Bool → Match Rule
explicit_answer files path is_dir = first_match (map (rules_answer path is_dir) (reverse files))

-- git's ranks, over the part of a chain that they reach: `.gitignore`, exclude files, global file
abbrev pub git_answer : Ruleset → List Asked → Path → Bool → Match Rule
git_answer global chain path is_dir =
    first_match (nearest Gitignore chain is_dir ∷ (nearest Exclude chain is_dir ∷ (rules_answer path is_dir global ∷ [])))

-- git's ranks where they apply, else none. The lists of directories reach to the nearest mark; the
-- global file has no such limit
abbrev pub git_ranks : Settings → Ruleset → List Asked → Path → Bool → Match Rule
git_ranks s global chain path is_dir = if has_git s chain then git_answer global (cut chain) path is_dir else None

-- all ranks in their order: the first that has a match decides, however far its directory is. With
-- `foo` in `/t/.ignore` and `!foo` in `/t/a/.gitignore`, `/t/a/foo` is ignored
abbrev pub ranks_answer : Settings → Outside → List Asked → Path → Bool → Match Rule
ranks_answer s outside chain path is_dir =
    first_match (
    nearest Custom chain is_dir
    ∷ (nearest Ignore chain is_dir
    ∷ (git_ranks s outside.global chain (trim_of path) is_dir
    ∷ (explicit_answer outside.explicit (trim_of path) is_dir
    ∷ []))))
