-- The entries of a directory in memory.
use Rattle.std.specs.Prelude.{ℕ, List, [], ◌∷◌, Option, Some, None, bytes_eq, cond}
use Rattle.ignore_base.specs.Text.{Bytes}
use Rattle.ignore_files.specs.declared.memory.entry.Entry.{Entry}
use Rattle.ignore_files.specs.declared.memory.entry.Entry.TheVariants.{Named, Nameless}

-- the node of the entry with a name, if there is one
abbrev pub node_named : Bytes → List Entry → Option ℕ
node_named name [] = None
node_named name (Named n file_type node ∷ entries) = cond (bytes_eq n name) (Some node) (node_named name entries)
node_named name (Nameless ∷ entries) = node_named name entries
