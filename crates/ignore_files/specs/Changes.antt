-- The tree in memory after each call that changes it, or the error of the call.
use Rattle.std.specs.Prelude.{◌≡◌, ℕ, zero, suc, Bool, List, [], ◌∷◌, ◌++◌, length, Option, Some, Result, Ok, Err, cond}
use Rattle.ignore_base.specs.Text.{Bytes, Path}
use Rattle.ignore_base.specs.declared.fault.Fault.{Fault}
use Rattle.ignore_base.specs.Paths.{components, last_component}
use Rattle.ignore_files.specs.Memory.{Memory, and_then, is_canonical_path, is_directory, is_file_node, any_kind, sought, parent_for, new_node}
use Rattle.ignore_files.specs.Answers.{file_type_of}
use Rattle.ignore_files.specs.declared.tree_error.TreeError.{TreeError}
use Rattle.ignore_files.specs.declared.tree_error.TreeError.TheVariants as refusal
use Rattle.ignore_files.specs.declared.types.Identity.{Identity}
use Rattle.ignore_files.specs.declared.memory.entry.Entry.{Entry}
use Rattle.ignore_files.specs.declared.memory.entry.Entry.TheVariants.{Named, Nameless}
use Rattle.ignore_files.specs.declared.memory.node.Node.{Node}
use Rattle.ignore_files.specs.declared.memory.node.Kind.{Kind}
use Rattle.ignore_files.specs.declared.memory.node.Kind.TheVariants.{Dir, File, Link}

-- the nodes with f applied to the one at a place
abbrev pub changed : (Node → Node) → List Node → ℕ → List Node
changed f [] place = []
changed f (n ∷ ns) zero = f n ∷ ns
changed f (n ∷ ns) (suc place) = n ∷ changed f ns place

-- `/` alone
abbrev pub root_alone : Path → Memory
root_alone cwd = record { cwd = cwd; nodes = new_node 0 0 (47 ∷ []) (Dir []) 0 ∷ [] }

-- the result of `new`
abbrev pub made : Path → Result Memory TreeError
made cwd = cond (is_canonical_path cwd) (Ok (root_alone cwd)) (Err refusal.NotClean)

-- the kind with one more entry, where it is a directory
abbrev pub with_entry : Entry → Kind → Kind
with_entry entry (Dir entries) = Dir (entries ++ entry ∷ [])
with_entry entry (File bytes) = File bytes
with_entry entry (Link target) = Link target

-- the node with one more entry, where it is a directory
abbrev pub listing_too : Entry → Node → Node
listing_too entry n = record n { kind = with_entry entry n.kind }

-- the nodes with one more, which becomes the last entry of the directory at a place
abbrev pub with_node : List Node → Path → Kind → ℕ → ℕ → List Node
with_node nodes path kind len parent =
    changed (listing_too (Named (last_component (components path)) (file_type_of kind) (length nodes))) nodes parent
    ++ new_node (length nodes) parent path kind len ∷ []

-- the tree with a node of this kind and size at a path
abbrev pub added : Kind → ℕ → Memory → Path → Result Memory TreeError
added kind len tree path =
    and_then (λ parent. Ok (record tree { nodes = with_node tree.nodes path kind len parent })) (parent_for tree.nodes path)

-- an empty directory is added
abbrev pub dir_added : Memory → Path → Result Memory TreeError
dir_added = added (Dir []) 0

-- a file with these bytes is added
abbrev pub file_added : Bytes → Memory → Path → Result Memory TreeError
file_added bytes = added (File bytes) (length bytes)

-- a link with this target is added
abbrev pub link_added : Path → Memory → Path → Result Memory TreeError
link_added target = added (Link target) (length target)

-- the tree with f applied to the node at a path, where its kind passes the test
abbrev pub set_at : (Kind → Bool) → (Node → Node) → Memory → Path → Result Memory TreeError
set_at test f tree path = and_then (λ place. Ok (record tree { nodes = changed f tree.nodes place })) (sought test tree.nodes path)

-- a directory has one more entry, which has no name
abbrev pub nameless_added : Memory → Path → Result Memory TreeError
nameless_added = set_at is_directory (listing_too Nameless)

-- the size of a file is set
abbrev pub size_set : ℕ → Memory → Path → Result Memory TreeError
size_set len = set_at is_file_node (λ n. record n { len = len })

-- the identity of a node is set
abbrev pub identity_set : Option Identity → Memory → Path → Result Memory TreeError
identity_set identity = set_at any_kind (λ n. record n { identity = identity })

-- the fault of `stat` for a node is set
abbrev pub stat_faulted : Fault → Memory → Path → Result Memory TreeError
stat_faulted fault = set_at any_kind (λ n. record n { stat_fault = Some fault })

-- the fault of `list` for a directory is set
abbrev pub list_faulted : Fault → Memory → Path → Result Memory TreeError
list_faulted fault = set_at is_directory (λ n. record n { list_fault = Some fault })

-- reading of a file ends after so many bytes, by this fault
abbrev pub contents_cut : ℕ → Fault → Memory → Path → Result Memory TreeError
contents_cut len fault = set_at is_file_node (λ n. record n { cut = Some (record { len = len; fault = fault }) })

-- the call succeeds exactly where it should and leaves that tree; or it fails with that error and
-- changes nothing
abbrev pub Leaves : {A : Type 0} → Result Memory TreeError → Result A TreeError → Memory → Memory → Type 0
Leaves (Ok after) (Ok a) old new = new ≡ after
Leaves (Ok after) (Err e) old new = ⊥
Leaves (Err refused) (Ok a) old new = ⊥
Leaves (Err refused) (Err e) old new = (e ≡ refused) × (new ≡ old)

-- the same for a call that allocates: out of memory, which changes nothing, is possible too
abbrev pub LeavesIfRoom : {A : Type 0} → Result Memory TreeError → Result A TreeError → Memory → Memory → Type 0
LeavesIfRoom (Ok after) (Ok a) old new = new ≡ after
LeavesIfRoom (Ok after) (Err e) old new = (e ≡ refusal.Memory) × (new ≡ old)
LeavesIfRoom (Err refused) (Ok a) old new = ⊥
LeavesIfRoom (Err refused) (Err e) old new = (e ≡ refused) × (new ≡ old)

-- the call returns that tree, or is out of memory; or it fails with that error
abbrev pub MakesIfRoom : Result Memory TreeError → Result Memory TreeError → Type 0
MakesIfRoom (Ok made) (Ok tree) = tree ≡ made
MakesIfRoom (Ok made) (Err e) = e ≡ refusal.Memory
MakesIfRoom (Err refused) (Ok tree) = ⊥
MakesIfRoom (Err refused) (Err e) = e ≡ refused
