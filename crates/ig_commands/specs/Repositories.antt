-- Folders that hold a repository, which `ignored --no-repositories` leaves out.
use Rattle.std.specs.Prelude.{◌≡◌, ◌≤◌, ℕ, Bool, true, List, [], ◌∷◌, ◌++◌, length, Result, Ok, Err, if◌then◌else◌}
use Rattle.std.specs.List.{flat_map, list_any}
use Rattle.ignore_base.specs.Paths.{join_of}
use Rattle.ignore_base.specs.Text.{Path}
use Rattle.ignore_base.specs.declared.fault.Fault.{Fault}
use Rattle.ignore_files.specs.Kinds.{is_dir}
use Rattle.ignore_files.specs.Tree.{Tree}
use Rattle.ignore_files.specs.declared.types.Listed.{Listed}
use Rattle.ignore_files.specs.declared.types.Listed.TheVariants as thing
use Rattle.ig_commands.specs.Worktree.{is_store}

-- a listed thing is that of a repository: it is named `.git` or `.jj`, whatever kind it is of. So each
-- folder that git takes for a repository has one: git asks besides that `.git` is a folder with HEAD,
-- objects and refs, or a file that leads to one, or can't be read. A thing without a name may be one
abbrev pub is_sign : Listed → Bool
is_sign (thing.Entry name kind) = is_store name
is_sign (thing.Fault fault) = true

-- what a folder lists shows a repository, or can't be listed, so that it may have one
abbrev pub shows : Result (List Listed) Fault → Bool
shows (Ok listed) = list_any is_sign listed
shows (Err fault) = true

-- the folders that a folder lists; a link to one is none
abbrev pub folder_at : Path → Listed → List Path
folder_at dir (thing.Entry name kind) = if is_dir kind then join_of dir name ∷ [] else []
folder_at dir (thing.Fault fault) = []

abbrev pub folders_in : Path → Result (List Listed) Fault → List Path
folders_in dir (Ok listed) = flat_map (folder_at dir) listed
folders_in dir (Err fault) = []

-- some folders and all folders below them, at any depth, are these
pub data AreBelow (tree : Tree) : List Path → List Path → Type 0 where
  none : AreBelow tree [] []
  more : {dir : Path} {dirs found : List Path} → AreBelow tree (dirs ++ folders_in dir (tree.list dir)) found
      → AreBelow tree (dir ∷ dirs) (dir ∷ found)

-- one of these folders, and of the folders below them, shows a repository, where they are so many at
-- the most
abbrev pub OneShows : Tree → List Path → ℕ → Bool → Type 0
OneShows tree dirs most held =
    (found : List Path) → AreBelow tree dirs found → length found ≤ most → held ≡ list_any (λ dir. shows (tree.list dir)) found

-- the greatest number of folders that are looked into
abbrev pub most_folders : ℕ
most_folders = 18446744073709551615

-- the folder at a path holds a repository: it shows one, or a folder at any depth below it does
abbrev pub IsHeld : Tree → Path → Bool → Type 0
IsHeld tree path held = OneShows tree (path ∷ []) most_folders held
