-- Where the exclude file of a directory's repository is.
use Rattle.std.specs.Prelude.{drop, length, codes, nat_eq, Option, None, Some, Result, Ok, Err, true, if◌then◌else◌}
use Rattle.std.specs.List.{starts_with}
use Rattle.ignore_base.specs.Text.{Bytes, Path}
use Rattle.ignore_base.specs.declared.fault.Fault.{Fault}
use Rattle.ignore_base.specs.Paths.{join_of}
use Rattle.ignore_base.specs.Problem.{Problem, at_path, io}
use Rattle.ignore_files.specs.Tree.{Tree}
use Rattle.ignore_files.specs.declared.types.Contents.{Contents}
use Rattle.ignore_rules.specs.Matchers.{is_file_there}
use Rattle.ignore_rules.specs.RuleFile.{first_line}
use Rattle.ignore_dir.specs.declared.settings.Settings.{Settings}

-- where a file may be: at a path, or nowhere, or a problem was met on the way there
abbrev pub Place : Type 0
Place = Result (Option Path) Problem

-- a fault on the way, reported at a path
abbrev pub stopped_at : Path → Fault → Place
stopped_at path fault = Err (at_path path (io fault))

-- the first line of a file leads on; where the file has no line, the way leads nowhere
abbrev pub by_line : Path → (Bytes → Place) → Result (Option Bytes) Fault → Place
by_line path next (Ok None) = Ok None
by_line path next (Ok (Some line)) = next line
by_line path next (Err fault) = stopped_at path fault

-- the exclude file in the folder of a repository
abbrev pub excludes_in : Path → Place
excludes_in folder = Ok (Some (join_of folder (codes "info/exclude")))

-- the common folder that the line of `commondir` names: relative to the folder of that file where
-- it begins with a dot
abbrev pub common_folder : Path → Bytes → Path
common_folder folder line = if starts_with nat_eq line (codes ".") then join_of folder line else line

-- the contents of `commondir` in a folder lead to the common folder; where that file can't be
-- opened, the way leads nowhere
abbrev pub by_commondir : Path → Result Contents Fault → Place
by_commondir folder (Ok contents) =
    by_line (join_of folder (codes "commondir")) (λ line. excludes_in (common_folder folder line)) (first_line contents)
by_commondir folder (Err fault) = Ok None

-- the line `gitdir: FOLDER` of a `.git` file leads to the folder
abbrev pub by_gitdir : Tree → Bytes → Place
by_gitdir tree line =
    let folder = drop (length (codes "gitdir: ")) line in
    if starts_with nat_eq line (codes "gitdir: ") then by_commondir folder (tree.contents (join_of folder (codes "commondir"))) else Ok None

-- the contents of a `.git` file lead to a folder
abbrev pub by_git_file : Tree → Path → Result Contents Fault → Place
by_git_file tree git (Ok contents) = by_line git (by_gitdir tree) (first_line contents)
by_git_file tree git (Err fault) = stopped_at git fault

-- the exclude file of the repository with this `.git`: inside it, unless it is a file, which says
-- where the repository is. With `.git` the file of one line `gitdir: /g/w`, and `/g/w/commondir` of
-- one line `..`, it is `/g/w/../info/exclude`
abbrev pub exclude_by : Tree → Path → Place
exclude_by tree git = if is_file_there (tree.stat git true) then by_git_file tree git (tree.contents git) else excludes_in git

-- the exclude file of a directory, where that filter is on
abbrev pub exclude_place : Tree → Settings → Path → Place
exclude_place tree s dir = if s.git_exclude then exclude_by tree (join_of dir (codes ".git")) else Ok None
