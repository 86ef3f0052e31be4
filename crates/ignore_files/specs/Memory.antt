-- Trees in memory: their nodes, and the nodes to which canonical paths lead.
use Rattle.std.specs.Prelude.{ℕ, ◌+◌, Bool, true, false, List, [], ◌∷◌, Option, Some, None, option_and_then, Result, Ok, Err, slice_get}
use Rattle.std.specs.Prelude.{◌==◌, ◌||◌, ◌&&◌, cond, count_by}
use Rattle.std.specs.List.{list_all}
use Rattle.ignore_base.specs.Paths.{but_last, components, is_proper}
use Rattle.std.specs.Option.{option_map_or}
use Rattle.ignore_base.specs.Text.{Bytes, Path}
use Rattle.ignore_files.specs.Entries.{node_named}
use Rattle.ignore_files.specs.declared.tree_error.TreeError.{TreeError}
use Rattle.ignore_files.specs.declared.tree_error.TreeError.TheVariants as refusal
use Rattle.ignore_files.specs.declared.memory.entry.Entry.{Entry}
use Rattle.ignore_files.specs.declared.memory.node.Node.{Node}
use Rattle.ignore_files.specs.declared.memory.node.Kind.{Kind}
use Rattle.ignore_files.specs.declared.memory.node.Kind.TheVariants.{Dir, File, Link}

-- a tree in memory: its working directory, and its nodes in the order in which they were added. A
-- node is named by its place in that order; `/` has place 0
pub record Memory : Type 0 where
  pub cwd : Path
  pub nodes : List Node

-- the error of a result, or f of its value
abbrev pub and_then : {A B E : Type 0} → (A → Result B E) → Result A E → Result B E
and_then f (Ok a) = f a
and_then f (Err e) = Err e

-- the list is empty
abbrev pub is_empty : {A : Type 0} → List A → Bool
is_empty [] = true
is_empty (x ∷ xs) = false

-- it is a directory
abbrev pub is_directory : Kind → Bool
is_directory (Dir entries) = true
is_directory (File bytes) = false
is_directory (Link target) = false

-- it is a file
abbrev pub is_file_node : Kind → Bool
is_file_node (Dir entries) = false
is_file_node (File bytes) = true
is_file_node (Link target) = false

-- each kind passes
abbrev pub any_kind : Kind → Bool
any_kind kind = true

-- at the place is a node whose kind passes
abbrev pub is_at : (Kind → Bool) → List Node → ℕ → Bool
is_at test nodes place = option_map_or (λ n. test n.kind) (slice_get nodes place) false

-- at the place is a directory
abbrev pub is_dir_at : List Node → ℕ → Bool
is_dir_at = is_at is_directory

-- how many directories there are
abbrev pub dir_count : Memory → ℕ
dir_count tree = count_by (λ n. is_directory n.kind) tree.nodes

-- the entries of a directory; other kinds have none
abbrev pub entries_of : Kind → Option (List Entry)
entries_of (Dir entries) = Some entries
entries_of (File bytes) = None
entries_of (Link target) = None

-- the node of a directory's entry with a name
abbrev pub entry_under : Bytes → Kind → Option ℕ
entry_under name kind = option_and_then (node_named name) (entries_of kind)

-- the node of the entry with a name in the directory at a place
abbrev pub child : List Node → ℕ → Bytes → Option ℕ
child nodes place name = option_and_then (λ n. entry_under name n.kind) (slice_get nodes place)

-- the node to which components lead, one after another and through no links; empty components are
-- skipped
abbrev pub node_below : List Node → ℕ → List Bytes → Option ℕ
node_below nodes place [] = Some place
node_below nodes place (component ∷ rest) =
    cond (is_empty component) (node_below nodes place rest) (option_and_then (λ i. node_below nodes i rest) (child nodes place component))

-- the node at a canonical path
abbrev pub place_of : List Node → Path → Option ℕ
place_of nodes path = node_below nodes 0 (components path)

-- a canonical path: `/`, or `/` and names joined by single slashes
abbrev pub is_canonical_path : Path → Bool
is_canonical_path [] = false
is_canonical_path (b ∷ rest) = (b == 47) && (is_empty rest || list_all is_proper (components rest))

-- the place, if it has a node whose kind passes; else the error
abbrev pub passing : (Kind → Bool) → TreeError → List Node → Option ℕ → Result ℕ TreeError
passing test refused nodes None = Err refused
passing test refused nodes (Some place) = cond (is_at test nodes place) (Ok place) (Err refused)

-- the place of the node at a canonical path whose kind passes
abbrev pub sought : (Kind → Bool) → List Node → Path → Result ℕ TreeError
sought test nodes path = cond (is_canonical_path path) (passing test refusal.Missing nodes (place_of nodes path)) (Err refusal.NotClean)

-- the place of the directory that a canonical path is in
abbrev pub folder_sought : List Node → Path → Result ℕ TreeError
folder_sought nodes path =
    cond (is_canonical_path path)
    (passing is_directory refusal.NoParent nodes (node_below nodes 0 (but_last (components path)))) (Err refusal.NotClean)

-- the directory, unless the path has a node already
abbrev pub vacant : Option ℕ → ℕ → Result ℕ TreeError
vacant None parent = Ok parent
vacant (Some place) parent = Err refusal.Exists

-- the place of the directory in which a node may be added at a path: the path is canonical, what it
-- is in is a directory, and nothing is there
abbrev pub parent_for : List Node → Path → Result ℕ TreeError
parent_for nodes path = and_then (vacant (place_of nodes path)) (folder_sought nodes path)

-- a node as it is added at a place: its inode is its number, counted from 1
abbrev pub new_node : ℕ → ℕ → Path → Kind → ℕ → Node
new_node place parent path kind len = record {
  parent = parent;
  path = path;
  kind = kind;
  len = len;
  identity = Some (record { device = 1; inode = place + 1 });
  stat_fault = None;
  list_fault = None;
  cut = None;
}
