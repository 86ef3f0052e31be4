-- The tree that `ignored` and `unused` meet: without what repositories keep of their own.
use Rattle.std.specs.Prelude.{Bool, true, false, not, ◌&&◌, ◌||◌, List, [], filter, codes, Result, Ok, Err, if◌then◌else◌}
use Rattle.std.specs.List.{list_any}
use Rattle.std.specs.Str.{bytes_eq}
use Rattle.ignore_base.specs.Paths.{components}
use Rattle.ignore_base.specs.Text.{Bytes, Path}
use Rattle.ignore_base.specs.declared.fault.Fault.{Fault}
use Rattle.ignore_files.specs.Tree.{Tree}
use Rattle.ignore_files.specs.declared.types.Listed.{Listed}
use Rattle.ignore_files.specs.declared.types.Listed.TheVariants as thing

-- a name is that of what a repository keeps of its own: `.git` or `.jj`, whatever kind it is of
abbrev pub is_store : Bytes → Bool
is_store name = bytes_eq name (codes ".git") || bytes_eq name (codes ".jj")

-- a path leads to something of such a name, or through it
abbrev pub has_store : Path → Bool
has_store path = list_any is_store (components path)

-- a listed thing is met: it isn't an entry of such a name
abbrev pub is_met : Listed → Bool
is_met (thing.Entry name kind) = not (is_store name)
is_met (thing.Fault fault) = true

-- what is met of a listing
abbrev pub met_of : Result (List Listed) Fault → Result (List Listed) Fault
met_of (Ok listed) = Ok (filter is_met listed)
met_of (Err fault) = Err fault

-- a canonical path leads to something of such a name, or through it
abbrev pub leads_in : Result Path Fault → Bool
leads_in (Ok canonical) = has_store canonical
leads_in (Err fault) = false

-- what is at a path lies inside of what a repository keeps of its own: its text or its canonical path
-- leads there
abbrev pub is_inside : Tree → Path → Bool
is_inside tree path = has_store path || leads_in (tree.canonical path)

-- nothing is listed at a path: it is one of these roots, and lies there
abbrev pub is_closed : List Path → Tree → Path → Bool
is_closed roots tree path = list_any (bytes_eq path) roots && is_inside tree path

-- the tree of files without what repositories keep of their own: no listing has an entry of such a
-- name, and a root that lies inside of one lists nothing. All else is as it was
abbrev pub worktree : List Path → Tree → Tree
worktree roots tree =
    record tree { list = λ path. if is_closed roots tree path then Ok [] else met_of (tree.list path) }
