-- The tree in memory after a node is removed, or a file is written anew.
use Rattle.std.specs.Prelude.{ℕ, Bool, false, List, length, Option, Some, None, Result, Ok, Err, bytes_eq, not}
use Rattle.std.specs.List.{filter}
use Rattle.ignore_base.specs.Text.{Bytes, Path}
use Rattle.ignore_base.specs.Paths.{components, last_component}
use Rattle.ignore_files.specs.Memory.{Memory, and_then, child, is_file_node, folder_sought}
use Rattle.ignore_files.specs.Changes.{changed, set_at}
use Rattle.ignore_files.specs.declared.tree_error.TreeError.{TreeError}
use Rattle.ignore_files.specs.declared.tree_error.TreeError.TheVariants as refusal
use Rattle.ignore_files.specs.declared.memory.entry.Entry.{Entry}
use Rattle.ignore_files.specs.declared.memory.entry.Entry.TheVariants.{Named, Nameless}
use Rattle.ignore_files.specs.declared.memory.node.Node.{Node}
use Rattle.ignore_files.specs.declared.memory.node.Kind.{Kind}
use Rattle.ignore_files.specs.declared.memory.node.Kind.TheVariants.{Dir, File, Link}

-- whether an entry has a name
abbrev pub is_under : Bytes → Entry → Bool
is_under name (Named n file_type node) = bytes_eq n name
is_under name Nameless = false

-- the entries without those of a name
abbrev pub without : Bytes → List Entry → List Entry
without name entries = filter (λ e. not (is_under name e)) entries

-- the kind without the entries of a name, where it is a directory
abbrev pub without_name : Bytes → Kind → Kind
without_name name (Dir entries) = Dir (without name entries)
without_name name (File bytes) = File bytes
without_name name (Link target) = Link target

-- the node without the entries of a name, where it is a directory
abbrev pub unlisting : Bytes → Node → Node
unlisting name n = record n { kind = without_name name n.kind }

-- the place of the directory, where it lists a node there
abbrev pub listing : Option ℕ → ℕ → Result ℕ TreeError
listing None parent = Err refusal.Missing
listing (Some place) parent = Ok parent

-- the place of the directory that lists a path: the path is canonical, what it is in is a
-- directory, and something is there; nothing lists `/`
abbrev pub lister_of : List Node → Path → Result ℕ TreeError
lister_of nodes path =
    and_then (λ parent. listing (child nodes parent (last_component (components path))) parent) (folder_sought nodes path)

-- what is at a path is removed, with all that is below it
abbrev pub removed : Memory → Path → Result Memory TreeError
removed tree path =
    and_then (λ parent. Ok (record tree { nodes = changed (unlisting (last_component (components path))) tree.nodes parent }))
    (lister_of tree.nodes path)

-- the kind with these bytes, where it is a file
abbrev pub with_bytes : Bytes → Kind → Kind
with_bytes bytes (Dir entries) = Dir entries
with_bytes bytes (File old) = File bytes
with_bytes bytes (Link target) = Link target

-- the node with these bytes, where it is a file, and with their number as its size
abbrev pub holding : Bytes → Node → Node
holding bytes n = record n { kind = with_bytes bytes n.kind; len = length bytes }

-- a file is written anew: it has these bytes, and their number as its size
abbrev pub file_written : Bytes → Memory → Path → Result Memory TreeError
file_written bytes = set_at is_file_node (holding bytes)
