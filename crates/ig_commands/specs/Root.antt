-- The folder that `why` answers in.
use Rattle.std.specs.Prelude.{◌≡◌, ◌≢◌, ◌⊎◌, Bool, true, false, ◌||◌, [], codes, Option, None, Some, if◌then◌else◌}
use Rattle.std.specs.Str.{bytes_eq}
use Rattle.ignore_base.specs.Paths.{folder_of, join_of}
use Rattle.ignore_base.specs.Text.{Path}
use Rattle.ignore_dir.specs.Load.{is_there}
use Rattle.ignore_files.specs.Tree.{Tree}

-- a folder has the mark of a repository
abbrev pub is_marked : Tree → Path → Bool
is_marked tree dir = is_there tree (join_of dir (codes ".git")) || is_there tree (join_of dir (codes ".jj"))

-- the folder of a folder; empty for `/`, and for a name alone
abbrev pub parent_of : Path → Path
parent_of dir = if bytes_eq dir (codes "/") then [] else folder_of dir

-- the nearest folder with a mark, at or above one, if there is any
pub data Nearest (tree : Tree) : Path → Option Path → Type 0 where
  none : Nearest tree [] None
  here : {dir : Path} → dir ≢ [] → is_marked tree dir ≡ true → Nearest tree dir (Some dir)
  above : {dir : Path} {found : Option Path} → dir ≢ [] → is_marked tree dir ≡ false → Nearest tree (parent_of dir) found
      → Nearest tree dir found

-- the root in a working directory: the nearest folder with a mark, or else that directory; `.` where
-- it isn't known
abbrev pub IsRoot : Tree → Option Path → Path → Type 0
IsRoot tree None root = root ≡ codes "."
IsRoot tree (Some dir) root = Nearest tree dir (Some root) ⊎ (Nearest tree dir None × (root ≡ dir))
