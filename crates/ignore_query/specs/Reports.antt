-- Which problems a query reports: those of what it loads.
use Rattle.std.specs.Prelude.{Bool, not, ◌||◌, List, [], ◌∷◌, ◌++◌, map, filter, Option, None, is_some, if◌then◌else◌}
use Rattle.std.specs.Option.{option_to_list}
use Rattle.ignore_base.specs.Text.{Bytes, Path}
use Rattle.ignore_base.specs.Paths.{join_of}
use Rattle.ignore_base.specs.Problem.{Problem}
use Rattle.ignore_dir.specs.Above.{path_along}
use Rattle.ignore_dir.specs.Limits.{is_beyond, size_problem}
use Rattle.ignore_dir.specs.Load.{joined_some}
use Rattle.ignore_dir.specs.Query.{depth_of_path, has_rules, is_asked, is_ignored, limit_of, loaded_for, names_of, problem_above, size_of}
use Rattle.ignore_dir.specs.Scene.{QueryScene}
use Rattle.ignore_query.specs.declared.kept.Cache.{Cache}
use Rattle.ignore_query.specs.Listed.{kept_at}

-- the problem of the load of the directory with these names, if any
abbrev pub problem_in : QueryScene → List Bytes → Option Problem
problem_in g names = (g.loads (path_along g.root names)).1

-- the problems of looking for a directory: that of its load, where it is loaded
abbrev pub problems_at : QueryScene → Cache → List Bytes → List Problem
problems_at g c names = if is_some (kept_at c names) || is_ignored g names then [] else option_to_list (problem_in g names)

-- of some directories those of which nothing is kept
abbrev pub not_kept : Cache → List (List Bytes) → List (List Bytes)
not_kept c fronts = filter (λ names. not (is_some (kept_at c names))) fronts

-- the problem of loading what is above the root, unless that is kept
abbrev pub new_above : QueryScene → Cache → Option Problem
new_above g c = if c.has_above then None else problem_above g

-- the problems of the directories that are loaded for a path and not kept
unfoldable pub new_below : QueryScene → Cache → List Bytes → List (Option Problem)
new_below g c names = map (problem_in g) (not_kept c (loaded_for g names))

-- the problem of a query that the rules decide: those of what it loads, and that of the size
unfoldable pub reported_by_rules : QueryScene → Cache → Path → Bool → Option Problem
reported_by_rules g c path is_dir =
    joined_some
    (new_above g c
    ∷ (new_below g c (names_of path) ++ size_problem (join_of g.root path) (limit_of g path is_dir) (size_of g path) ∷ []))

-- the problem that a query reports, by what was kept before it; none where the rules don't decide
unfoldable pub reported : QueryScene → Cache → Path → Bool → Option Problem
reported g c path is_dir =
    if not (is_asked g.root path) then None
    else if is_beyond g.settings (depth_of_path path) is_dir then None
    else if has_rules g.tree g.root path then reported_by_rules g c path is_dir
    else None
