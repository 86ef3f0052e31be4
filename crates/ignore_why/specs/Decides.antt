-- The rule that decides on a path, in other words: the last that applies, of the nearest list that
-- has a match, of the first rank that has one.
use Rattle.std.specs.Prelude.{◌≡◌, All, Bool, List, [], ◌∷◌, ◌++◌, Some, reverse}
use Rattle.std.specs.Str.{chars}
use Rattle.ignore_base.specs.Match.{inner}
use Rattle.ignore_base.specs.Paths.{strip_of, trim_of}
use Rattle.ignore_base.specs.Text.{Bytes, Chars, Path}
use Rattle.ignore_base.specs.declared.match_result.Match.{Match}
use Rattle.ignore_base.specs.declared.match_result.Match.TheVariants.{None}
use Rattle.ignore_rules.specs.Answer.{IsLast, list_answer}
use Rattle.ignore_rules.specs.Rules.{Rule, Ruleset}
use Rattle.ignore_dir.specs.declared.dir.Rank.{Rank}
use Rattle.ignore_dir.specs.declared.dir.Rank.TheVariants.{Custom, Ignore, Gitignore, Exclude}
use Rattle.ignore_dir.specs.declared.outside.Outside.{Outside}
use Rattle.ignore_dir.specs.declared.settings.Settings.{Settings}
use Rattle.ignore_dir.specs.Above.{path_along}
use Rattle.ignore_dir.specs.Lists.{Asked}
use Rattle.ignore_dir.specs.Ranks.{cut, rules_answer}
use Rattle.ignore_dir.specs.Scene.{QueryScene, chain}
use Rattle.ignore_levels.specs.Reasons.Why.{by_rule}
use Rattle.ignore_levels.specs.Sites.{Site, Sited, StandsIn, in_directory, in_explicit, in_global, git_ranks_sited, nearest_sited}
use Rattle.ignore_why.specs.QueryWhy.{path_why}

-- the part of a chain that the lists of a rank reach: those of git's ranks end at the nearest mark
abbrev pub reach : Rank → List Asked → List Asked
reach Custom chain = chain
reach Ignore chain = chain
reach Gitignore chain = cut chain
reach Exclude chain = cut chain

-- the match of a rank
abbrev pub rank_match : List Asked → Bool → Rank → Match Sited
rank_match chain is_dir rank = nearest_sited rank (reach rank chain) is_dir

-- the matches of the ranks that are asked before the one in which a rule stands
abbrev pub matches_before : Settings → Outside → List Asked → Path → Bool → Site → List (Match Sited)
matches_before s o chain path is_dir (in_directory Custom past) = []
matches_before s o chain path is_dir (in_directory Ignore past) = rank_match chain is_dir Custom ∷ []
matches_before s o chain path is_dir (in_directory Gitignore past) = rank_match chain is_dir Custom ∷ rank_match chain is_dir Ignore ∷ []
matches_before s o chain path is_dir (in_directory Exclude past) =
    rank_match chain is_dir Custom ∷ rank_match chain is_dir Ignore ∷ rank_match chain is_dir Gitignore ∷ []
matches_before s o chain path is_dir in_global =
    rank_match chain is_dir Custom ∷ rank_match chain is_dir Ignore ∷ rank_match chain is_dir Gitignore ∷ rank_match chain is_dir Exclude ∷ []
matches_before s o chain path is_dir in_explicit =
    rank_match chain is_dir Custom ∷ rank_match chain is_dir Ignore ∷ git_ranks_sited s o.global chain (trim_of path) is_dir ∷ []

-- none of these is a match
abbrev pub AreNone : List (Match Sited) → Type 0
AreNone [] = Unit {0}
AreNone (m ∷ ms) = (m ≡ None) × AreNone ms

-- the last rule of a matcher that applies to a path
abbrev pub IsLastOf : Ruleset → Path → Bool → Rule → Type 0
IsLastOf rules path is_dir rule = IsLast rules.rules (chars (strip_of rules.root path)) is_dir rule

-- of files that were added by name, the last one first, it is that of the first that has a match
pub record StandsInFile (files : List Ruleset) (path : Path) (is_dir : Bool) (rule : Rule) : Type 0 where
  pub later : List Ruleset
  pub file : Ruleset
  pub earlier : List Ruleset
  pub split : files ≡ later ++ file ∷ earlier
  pub none : All (λ f. rules_answer path is_dir f ≡ None) later
  pub last : IsLastOf file path is_dir rule

-- a rule decides in the list at its site
abbrev pub StandsAt : Outside → List Asked → Path → Bool → Sited → Site → Type 0
StandsAt o chain path is_dir x (in_directory rank past) = StandsIn rank (reach rank chain) is_dir x
StandsAt o chain path is_dir x in_global = IsLastOf o.global (trim_of path) is_dir x.rule
StandsAt o chain path is_dir x in_explicit = StandsInFile (reverse o.explicit) (trim_of path) is_dir x.rule

-- a rule decides on a path: no rank before its own has a match, and it decides in its list
pub record Decides (s : Settings) (o : Outside) (chain : List Asked) (path : Path) (is_dir : Bool) (x : Sited) : Type 0 where
  pub first : AreNone (matches_before s o chain path is_dir x.site)
  pub stands : StandsAt o chain path is_dir x x.site

-- where a rule decides on a path, it does so in this sense
abbrev pub FirstRankDecides : Type 0
FirstRankDecides =
    (g : QueryScene) (names : List Bytes) (is_dir : Bool) (x : Sited) → inner (path_why g names is_dir) ≡ Some (by_rule x)
    → Decides g.settings g.outside (chain g names) (path_along g.root names) is_dir x

-- a list with the rule alone that decides gives the same answer as the whole list
abbrev pub AloneDecides : Type 0
AloneDecides =
    (rules : List Rule) (text : Chars) (is_dir : Bool) (rule : Rule) → inner (list_answer rules text is_dir) ≡ Some rule
    → list_answer (rule ∷ []) text is_dir ≡ list_answer rules text is_dir
