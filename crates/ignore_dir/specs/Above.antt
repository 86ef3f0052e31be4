-- The directories above a root, from `/` down.
use Rattle.std.specs.Prelude.{Bool, ◌&&◌, ◌||◌, List, [], ◌∷◌, map, codes, Option, Result, Ok, Err, if◌then◌else◌}
use Rattle.std.specs.List.{list_all}
use Rattle.ignore_base.specs.Text.{Bytes, Path}
use Rattle.ignore_base.specs.declared.fault.Fault.{Fault}
use Rattle.ignore_base.specs.Paths.{components, is_absolute, is_proper, join_of, without_slash}
use Rattle.ignore_base.specs.Problem.{Problem}
use Rattle.ignore_files.specs.Tree.{Tree}
use Rattle.ignore_rules.specs.Rules.{Ruleset, empty}
use Rattle.ignore_dir.specs.declared.dir.Dir.{Dir}
use Rattle.ignore_dir.specs.declared.settings.Settings.{Settings}
use Rattle.ignore_dir.specs.Load.{Loaded}

-- the settings ask for the directories above a root
abbrev pub needs_above : Settings → Bool
needs_above s = s.parents || (s.git_global || (s.git_ignore || s.git_exclude))

-- the directories on the way from a directory along some names: this one, and all below it but the
-- last. From `/` along `a`, `b` they are `/` and `/a`
abbrev pub directories_along : Path → List Bytes → List Path
directories_along dir [] = []
directories_along dir (name ∷ names) = dir ∷ directories_along (join_of dir name) names

-- the directory some names below another
abbrev pub path_along : Path → List Bytes → Path
path_along dir [] = dir
path_along dir (name ∷ names) = path_along (join_of dir name) names

-- the names of the canonical path of a root: none where that faults, and where it is not `/` and a
-- clean path
abbrev pub canonical_names : Result Path Fault → List Bytes
canonical_names (Ok path) =
    if is_absolute path && list_all is_proper (components (without_slash path)) then components (without_slash path) else []
canonical_names (Err fault) = []

-- the names from `/` to a root, as far as the directories above it are asked for
abbrev pub names_above : Tree → Settings → Path → List Bytes
names_above tree s root = if needs_above s then canonical_names (tree.canonical root) else []

-- the directories above a root that are loaded
abbrev pub paths_above : Tree → Settings → Path → List Path
paths_above tree s root = directories_along (codes "/") (names_above tree s root)

-- the rules where they count, else none
abbrev pub rules_if : Bool → Ruleset → Ruleset
rules_if on rules = if on then rules else empty

-- what counts of a directory above a root: its rules with `parents`, its mark with `git_ignore`
abbrev pub kept_above : Settings → Dir → Dir
kept_above s d =
    record {
      custom = rules_if s.parents d.custom;
      ignore = rules_if s.parents d.ignore;
      gitignore = rules_if s.parents d.gitignore;
      exclude = rules_if s.parents d.exclude;
      mark = d.mark && s.git_ignore;
    }

-- what counts of each of these directories
abbrev pub dirs_above : (Path → Loaded) → Settings → List Path → List Dir
dirs_above loads s paths = map (λ path. kept_above s (loads path).0) paths

-- the problem of the load of each of these directories, if any
abbrev pub problems_of_loads : (Path → Loaded) → List Path → List (Option Problem)
problems_of_loads loads paths = map (λ path. (loads path).1) paths
