-- What queries below a root depend on, and the chain of a path.
use Rattle.std.specs.Prelude.{Bool, List, [], ◌∷◌, ◌++◌, map, reverse}
use Rattle.ignore_base.specs.Text.{Bytes, Path}
use Rattle.ignore_base.specs.Paths.{joined}
use Rattle.ignore_files.specs.Tree.{Tree}
use Rattle.ignore_dir.specs.declared.dir.Dir.{Dir}
use Rattle.ignore_dir.specs.declared.outside.Outside.{Outside}
use Rattle.ignore_dir.specs.declared.settings.Settings.{Settings}
use Rattle.ignore_dir.specs.declared.verdict.Verdict.{Verdict}
use Rattle.ignore_dir.specs.Above.{directories_along, dirs_above, names_above, path_along, paths_above}
use Rattle.ignore_dir.specs.Lists.{Asked}
use Rattle.ignore_dir.specs.Load.{Loaded}
use Rattle.ignore_dir.specs.Verdict.{verdict}

-- what stays the same for all queries below a root: the tree, the loads of its directories, the
-- settings, the rules from outside, and the root
pub record QueryScene : Type 0 where
  pub tree : Tree
  pub loads : Path → Loaded
  pub settings : Settings
  pub outside : Outside
  pub root : Path

-- the scene of queries that has these parts
abbrev pub scene : Tree → (Path → Loaded) → Settings → Outside → Path → QueryScene
scene tree loads s outside root = record { tree = tree; loads = loads; settings = s; outside = outside; root = root }

-- what the directories at these paths hold
abbrev pub dirs_at : (Path → Loaded) → List Path → List Dir
dirs_at loads paths = map (λ path. (loads path).0) paths

-- each directory on the way along some names, asked about the names past it, joined. `d`, `e` along
-- `a`, `b` are asked about `a/b` and `b`
abbrev pub asked_along : List Dir → List Bytes → List Asked
asked_along [] names = []
asked_along (dir ∷ dirs) [] = (dir, []) ∷ asked_along dirs []
asked_along (dir ∷ dirs) (name ∷ names) = (dir, joined (name ∷ names)) ∷ asked_along dirs names

-- what counts of the directories on the way to a path of these names: those above the root from `/`
-- down, then the root and those below it
abbrev pub dirs_to : QueryScene → List Bytes → List Dir
dirs_to g names =
    dirs_above g.loads g.settings (paths_above g.tree g.settings g.root) ++ dirs_at g.loads (directories_along g.root names)

-- the names on that way: to the root from `/`, as far as they are known, and then those of the path
abbrev pub names_to : QueryScene → List Bytes → List Bytes
names_to g names = names_above g.tree g.settings g.root ++ names

-- the chain of a path of these names: the directories on the way to it, the nearest first, each
-- asked about the names past it
abbrev pub chain : QueryScene → List Bytes → List Asked
chain g names = reverse (asked_along (dirs_to g names) (names_to g names))

-- the verdict on a path of these names
unfoldable pub path_verdict : QueryScene → List Bytes → Bool → Verdict
path_verdict g names is_dir = verdict g.settings g.outside (chain g names) (path_along g.root names) is_dir
