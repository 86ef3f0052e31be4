-- What one directory of a tree holds for the rules: four rule lists and a mark, and what is wrong
-- with its files.
use Rattle.std.specs.Prelude.{◌≡◌, ℕ, Bool, true, false, ◌&&◌, ◌||◌, List, [], ◌∷◌, ◌++◌, map, codes, Option, None, Some}
use Rattle.std.specs.Prelude.{Ok, Err, is_ok, if◌then◌else◌}
use Rattle.std.specs.List.{filter_map}
use Rattle.std.specs.Option.{option_to_list}
use Rattle.ignore_base.specs.Text.{Path}
use Rattle.ignore_base.specs.Errors.{without_fault}
use Rattle.ignore_base.specs.Paths.{join_of}
use Rattle.ignore_base.specs.Problem.{Problem, joined_problems}
use Rattle.ignore_files.specs.Tree.{Tree}
use Rattle.ignore_rules.specs.RuleFile.{AddsFile}
use Rattle.ignore_rules.specs.Rules.{Building, Ruleset, begun, built, empty, with_case_insensitive, with_git_trailing_spaces}
use Rattle.ignore_dir.specs.declared.dir.Dir.{Dir}
use Rattle.ignore_dir.specs.declared.settings.Settings.{Settings}
use Rattle.ignore_dir.specs.Exclude.{Place, exclude_place}

-- a followed `stat` answers for the path
abbrev pub is_there : Tree → Path → Bool
is_there tree path = is_ok (tree.stat path true)

-- the file at a path was added to the builder, if it is there; its problem is reported, unless it
-- is a fault
abbrev pub AddsPresent : Bool → Tree → Path → Building → Building → Option Problem → Type 0
AddsPresent false tree path old new reported = (new ≡ old) × (reported ≡ None)
AddsPresent true tree path old new reported =
    (problem : Option Problem) × AddsFile tree path old new problem × (reported ≡ without_fault problem)

-- the files at these paths were added in turn
abbrev pub AddsFiles : Tree → List Path → Building → Building → List Problem → Type 0
AddsFiles tree [] old new reported = (new ≡ old) × (reported ≡ [])
AddsFiles tree (path ∷ paths) old new reported =
    (between : Building) × (first : Option Problem) × (rest : List Problem)
    × AddsPresent (is_there tree path) tree path old between first × AddsFiles tree paths between new rest
    × (reported ≡ option_to_list first ++ rest)

-- a builder for the rules of a directory: case and trailing spaces as set
abbrev pub started : Settings → Path → Building
started s dir = with_git_trailing_spaces (with_case_insensitive (begun dir) s.case_insensitive) s.git_trailing_spaces

-- the rules of the files at these paths, relative to a directory, and their problems as one
pub record IsRules (tree : Tree) (s : Settings) (dir : Path) (paths : List Path) (rules : Ruleset)
    (reported : Option Problem) : Type 0 where
  pub filled : Building
  pub problems : List Problem
  pub adds : AddsFiles tree paths (started s dir) filled problems
  pub builds : rules ≡ built filled
  pub reports : reported ≡ joined_problems problems

-- the rules of the exclude file, if there is one; a problem on the way to it is reported
abbrev pub IsExclude : Tree → Settings → Path → Place → Ruleset → Option Problem → Type 0
IsExclude tree s dir (Ok found) rules reported = IsRules tree s dir (option_to_list found) rules reported
IsExclude tree s dir (Err problem) rules reported = (rules ≡ empty) × (reported ≡ Some problem)

-- the files of a directory with the custom names, in their order
abbrev pub custom_paths : Settings → Path → List Path
custom_paths s dir = map (join_of dir) s.custom

-- one file of a directory, where its filter is on
abbrev pub path_if : Bool → Path → List ℕ → List Path
path_if on dir name = if on then join_of dir name ∷ [] else []

-- marks matter: git's rules apply only in a repository, and one of the two lists of repositories is
-- read
abbrev pub needs_marks : Settings → Bool
needs_marks s = s.require_git && (s.git_ignore || s.git_exclude)

-- a directory has the mark of a repository: marks matter, and a followed `stat` answers for its
-- `.git` or `.jj`
abbrev pub is_marked : Tree → Settings → Path → Bool
is_marked tree s dir =
    needs_marks s && (is_there tree (join_of dir (codes ".git")) || is_there tree (join_of dir (codes ".jj")))

-- the problems that there are, as one
abbrev pub joined_some : List (Option Problem) → Option Problem
joined_some problems = joined_problems (filter_map (λ problem. problem) problems)

-- a directory was loaded: each rule list is that of its files, the mark is right, and the problems
-- of the four lists are joined in their order
pub record Loads (tree : Tree) (s : Settings) (dir : Path) (loaded : Dir) (reported : Option Problem) : Type 0 where
  pub of_custom : Option Problem
  pub of_ignore : Option Problem
  pub of_gitignore : Option Problem
  pub of_exclude : Option Problem
  pub custom : IsRules tree s dir (custom_paths s dir) loaded.custom of_custom
  pub ignore : IsRules tree s dir (path_if s.ignore dir (codes ".ignore")) loaded.ignore of_ignore
  pub gitignore : IsRules tree s dir (path_if s.git_ignore dir (codes ".gitignore")) loaded.gitignore of_gitignore
  pub exclude : IsExclude tree s dir (exclude_place tree s dir) loaded.exclude of_exclude
  pub mark : loaded.mark ≡ is_marked tree s dir
  pub reports : reported ≡ joined_some (of_custom ∷ (of_ignore ∷ (of_gitignore ∷ (of_exclude ∷ []))))

-- the load of a directory: what it holds for the rules, and its problem, if any
abbrev pub Loaded : Type 0
Loaded = Dir × Option Problem

-- these are the loads of the directories of a tree, each by its path
abbrev pub AreLoads : Tree → Settings → (Path → Loaded) → Type 0
AreLoads tree s loads = (dir : List ℕ) → Loads tree s dir (loads dir).0 (loads dir).1
