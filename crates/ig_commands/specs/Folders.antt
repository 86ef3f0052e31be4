-- The last entry at each depth, as the code keeps it.
use Rattle.std.specs.Prelude.{ℕ, ◌==◌, Option, None, Some, option_map, slice_index_or, if◌then◌else◌}
use Rattle.ignore_base.specs.Text.{Path}
use Rattle.ignore_walk.specs.Entry.{entry_of}
use Rattle.ignore_walk.specs.declared.entry.DirEntry.{DirEntry}
use Rattle.ig_commands.specs.declared.folders.Folders.{Folders}

-- the path of an entry as the code keeps it
abbrev pub path_of : DirEntry → Path
path_of e = (entry_of e).path

-- the entry that is kept for a depth
abbrev pub entry_in : Folders → ℕ → Option DirEntry
entry_in folders depth = slice_index_or folders.entries.items depth None

-- the path of the entry that is kept for a depth
abbrev pub last_in : Folders → ℕ → Option Path
last_in folders depth = option_map path_of (entry_in folders depth)

-- an entry at its depth, and what was kept before at another one
abbrev pub noted : DirEntry → ℕ → Option DirEntry → Option DirEntry
noted entry depth old = if depth == entry.depth then Some entry else old
