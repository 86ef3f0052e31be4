-- The five answers of a tree in memory.
use Rattle.std.specs.Prelude.{Bool, true, List, [], map, take, Option, Some, None, Result, Ok, Err}
use Rattle.ignore_base.specs.Text.{Bytes, Path}
use Rattle.ignore_base.specs.declared.fault.Fault.{Fault}
use Rattle.ignore_base.specs.declared.fault.Fault.TheVariants.{NotADirectory, IsADirectory, BadName}
use Rattle.ignore_files.specs.Tree.{Tree}
use Rattle.ignore_files.specs.Memory.{Memory, and_then}
use Rattle.ignore_files.specs.Resolve.{node_found}
use Rattle.ignore_files.specs.declared.types.FileType.{FileType}
use Rattle.ignore_files.specs.declared.types.FileType.TheVariants as file_type
use Rattle.ignore_files.specs.declared.types.Metadata.{Metadata}
use Rattle.ignore_files.specs.declared.types.Listed.{Listed}
use Rattle.ignore_files.specs.declared.types.Listed.TheVariants as listed
use Rattle.ignore_files.specs.declared.types.Contents.{Contents}
use Rattle.ignore_files.specs.declared.memory.entry.Entry.{Entry}
use Rattle.ignore_files.specs.declared.memory.entry.Entry.TheVariants.{Named, Nameless}
use Rattle.ignore_files.specs.declared.memory.node.Node.{Node}
use Rattle.ignore_files.specs.declared.memory.node.Cut.{Cut}
use Rattle.ignore_files.specs.declared.memory.node.Kind.{Kind}
use Rattle.ignore_files.specs.declared.memory.node.Kind.TheVariants.{Dir, File, Link}

-- the kind of a node as a tree reports it
abbrev pub file_type_of : Kind → FileType
file_type_of (Dir entries) = file_type.Dir
file_type_of (File bytes) = file_type.File
file_type_of (Link target) = file_type.Symlink

-- the fault that was set for a call, or else the call's answer
abbrev pub unless : {A : Type 0} → Option Fault → Result A Fault → Result A Fault
unless None answer = answer
unless (Some fault) answer = Err fault

-- the answer of `stat` for a node
abbrev pub stat_of : Node → Result Metadata Fault
stat_of n = unless n.stat_fault (Ok (record { file_type = file_type_of n.kind; len = n.len }))

-- the item of a listing for an entry
abbrev pub listed_of : Entry → Listed
listed_of (Named name kind node) = listed.Entry name kind
listed_of Nameless = listed.Fault BadName

-- the listing of a directory
abbrev pub listing_of : Kind → Result (List Listed) Fault
listing_of (Dir entries) = Ok (map listed_of entries)
listing_of (File bytes) = Err NotADirectory
listing_of (Link target) = Err NotADirectory

-- the answer of `list` for a node
abbrev pub list_of : Node → Result (List Listed) Fault
list_of n = unless n.list_fault (listing_of n.kind)

-- the bytes up to where reading ends, with the fault that ends it
abbrev pub read_of : Bytes → Option Cut → Contents
read_of bytes None = record { bytes = bytes; fault = None }
read_of bytes (Some cut) = record { bytes = take cut.len bytes; fault = Some cut.fault }

-- the answer of `contents` for a node: what isn't a file opens, and its first read fails
abbrev pub contents_of : Option Cut → Kind → Contents
contents_of cut (Dir entries) = record { bytes = []; fault = Some IsADirectory }
contents_of cut (File bytes) = read_of bytes cut
contents_of cut (Link target) = record { bytes = []; fault = Some IsADirectory }

-- the node to which a path leads
abbrev pub found : Memory → Path → Bool → Result Node Fault
found tree path follow = node_found tree.cwd tree.nodes path follow

-- the tree of files that a tree in memory is
abbrev pub tree_of : Memory → Tree
tree_of tree = record {
  stat = λ path follow. and_then stat_of (found tree path follow);
  list = λ path. and_then list_of (found tree path true);
  contents = λ path. and_then (λ n. Ok (contents_of n.cut n.kind)) (found tree path true);
  canonical = λ path. and_then (λ n. Ok n.path) (found tree path true);
  identity = λ path follow. and_then (λ n. Ok n.identity) (found tree path follow);
}
