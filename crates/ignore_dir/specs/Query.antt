-- The answer of a query below a root on the bare tree.
use Rattle.std.specs.Prelude.{◌==◌, ℕ, Bool, true, false, not, ◌&&◌, ◌||◌, List, [], ◌∷◌, ◌++◌, length, map, codes}
use Rattle.std.specs.Prelude.{Option, None, Ok, Err, Result, if◌then◌else◌}
use Rattle.std.specs.List.{list_all, list_any, take_while}
use Rattle.std.specs.Str.{bytes_eq}
use Rattle.ignore_base.specs.Text.{Bytes, Path}
use Rattle.ignore_base.specs.Paths.{components, is_proper, join_of}
use Rattle.ignore_base.specs.Problem.{Problem}
use Rattle.ignore_base.specs.declared.fault.Fault.{Fault}
use Rattle.ignore_files.specs.Kinds.{is_dir}
use Rattle.ignore_files.specs.Tree.{Tree}
use Rattle.ignore_files.specs.declared.types.Metadata.{Metadata}
use Rattle.ignore_dir.specs.declared.incremental.IncrementalMatch.{IncrementalMatch}
use Rattle.ignore_dir.specs.declared.verdict.Verdict.{Verdict}
use Rattle.ignore_dir.specs.declared.verdict.Verdict.TheVariants as v
use Rattle.ignore_dir.specs.Above.{path_along, paths_above, problems_of_loads}
use Rattle.ignore_dir.specs.Limits.{beyond, is_beyond, limited, no_match, size_limit, size_problem, sized}
use Rattle.ignore_dir.specs.Load.{joined_some}
use Rattle.ignore_dir.specs.Scene.{QueryScene, path_verdict}
use Rattle.ignore_dir.specs.Verdict.{is_ignore}

-- the path is clean: it is empty, or each of its components is a name
abbrev pub is_clean : Path → Bool
is_clean path = length path == 0 || list_all is_proper (components path)

-- a path below a root is asked about: the root isn't `-`, and the path is clean
abbrev pub is_asked : Path → Path → Bool
is_asked root path = not (bytes_eq root (codes "-")) && is_clean path

-- the names of a clean path
abbrev pub names_of : Path → List Bytes
names_of [] = []
names_of (b ∷ bs) = components (b ∷ bs)

-- how many names a clean path has
abbrev pub depth_of_path : Path → ℕ
depth_of_path path = length (names_of path)

-- the metadata is that of a directory
abbrev pub is_dir_there : Result Metadata Fault → Bool
is_dir_there (Ok m) = is_dir m.file_type
is_dir_there (Err fault) = false

-- the rules decide on a path: it has a name, and the root leads to a directory
abbrev pub has_rules : Tree → Path → Path → Bool
has_rules tree root path = not (length path == 0) && is_dir_there (tree.stat root true)

-- the proper ancestors of a path of names, each by its names, the root first. Of `a`, `b` they are
-- that of no names, and `a`
abbrev pub ancestors : List Bytes → List (List Bytes)
ancestors [] = []
ancestors (name ∷ names) = [] ∷ map (λ front. name ∷ front) (ancestors names)

-- the directory with these names is ignored; the root never is
unfoldable pub is_ignored : QueryScene → List Bytes → Bool
is_ignored g [] = false
is_ignored g (name ∷ names) = is_ignore (path_verdict g (name ∷ names) true)

-- what the rules say of a path of these names: it is ignored below an ignored directory; else its
-- own verdict decides
unfoldable pub rules_verdict : QueryScene → List Bytes → Bool → Verdict
rules_verdict g names is_dir = if list_any (is_ignored g) (ancestors names) then v.Ignore else path_verdict g names is_dir

-- the directories from the root down that are loaded for a path: its proper ancestors up to the
-- first ignored one, that one left out
abbrev pub loaded_for : QueryScene → List Bytes → List (List Bytes)
loaded_for g names = take_while (λ front. not (is_ignored g front)) (ancestors names)

-- the problem of the load of each of them, if any
unfoldable pub problems_below : QueryScene → List Bytes → List (Option Problem)
problems_below g names = map (λ front. (g.loads (path_along g.root front)).1) (loaded_for g names)

-- the problem of loading what is above the root: those of its directories from `/` down, as one
abbrev pub problem_above : QueryScene → Option Problem
problem_above g = joined_some (problems_of_loads g.loads (paths_above g.tree g.settings g.root))

-- the greatest size of a path by what the rules say of it, if it has one
abbrev pub limit_of : QueryScene → Path → Bool → Option ℕ
limit_of g path is_dir = size_limit g.settings is_dir (rules_verdict g (names_of path) is_dir)

-- the metadata by which the size of a path is judged
abbrev pub size_of : QueryScene → Path → Result Metadata Fault
size_of g path = g.tree.stat (join_of g.root path) g.settings.follow_links

-- the problem of a query that the rules decide: that of what is above the root, those of the
-- directories that are loaded from the root down, and that of the size
unfoldable pub problem_of_rules : QueryScene → Path → Bool → Option Problem
problem_of_rules g path is_dir =
    joined_some
    (problem_above g
    ∷ (problems_below g (names_of path) ++ size_problem (join_of g.root path) (limit_of g path is_dir) (size_of g path) ∷ []))

-- the answer that the rules give, with its problem, if any
unfoldable pub answer_of_rules : QueryScene → Path → Bool → IncrementalMatch × Option Problem
answer_of_rules g path is_dir = (
  limited g.settings (depth_of_path path) is_dir
      (sized (limit_of g path is_dir) (size_of g path) (rules_verdict g (names_of path) is_dir)),
  problem_of_rules g path is_dir,
)

-- the answer of a query, with its problem, if any: for the root `-` and paths that aren't clean no
-- match; then what is beyond the limits on depth; then no match for the root itself, and for all
-- paths where the root is no directory; else the rules decide
unfoldable pub query : QueryScene → Path → Bool → IncrementalMatch × Option Problem
query g path is_dir =
    if not (is_asked g.root path) then (no_match is_dir, None)
    else if is_beyond g.settings (depth_of_path path) is_dir then (beyond, None)
    else if has_rules g.tree g.root path then answer_of_rules g path is_dir
    else (limited g.settings (depth_of_path path) is_dir v.None, None)
