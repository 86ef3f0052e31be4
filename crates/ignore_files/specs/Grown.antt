-- How the nodes of a tree in memory stand to one another.
use Rattle.std.specs.Prelude.{◌≡◌, ℕ, ◌<◌, List, Contains, Option, Some, slice_get, option_map}
use Rattle.ignore_base.specs.Text.{Bytes}
use Rattle.ignore_files.specs.Answers.{file_type_of}
use Rattle.ignore_files.specs.Entries.{node_named}
use Rattle.ignore_files.specs.declared.memory.entry.Entry.{Entry}
use Rattle.ignore_files.specs.declared.memory.entry.Entry.TheVariants.{Named}
use Rattle.ignore_files.specs.declared.memory.node.Node.{Node}
use Rattle.ignore_files.specs.declared.memory.node.Kind.TheVariants.{Dir}
use Rattle.ignore_files.specs.declared.types.FileType.{FileType}

-- the kind of the node at a place, as a tree reports it
abbrev pub kind_at : List Node → ℕ → Option FileType
kind_at nodes place = option_map (λ n. file_type_of n.kind) (slice_get nodes place)

-- each entry of a directory leads, by its name, to a node that was added after the directory and is
-- of the kind that is listed
abbrev pub IsGrown : List Node → Type 0
IsGrown nodes = (place : ℕ) (dir : Node) (entries : List Entry) (name : Bytes) (kind : FileType) (node : ℕ)
    → slice_get nodes place ≡ Some dir → dir.kind ≡ Dir entries → Contains entries (Named name kind node)
    → (node_named name entries ≡ Some node) × (place < node) × (kind_at nodes node ≡ Some kind)
