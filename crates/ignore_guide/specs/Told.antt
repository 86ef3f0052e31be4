-- What a host told, as answers of files.
use Rattle.std.specs.Prelude.{◌≡◌, Bool, true, Option, None, Some, Result, Ok, Err, is_some, string_bytes, if◌then◌else◌, []}
use Rattle.std.specs.List.{list_any}
use Rattle.ignore_base.specs.Paths.{strip_prefix_of}
use Rattle.ignore_base.specs.Text.{Path}
use Rattle.ignore_base.specs.declared.fault.Fault.{Fault}
use Rattle.ignore_base.specs.declared.fault.Fault.TheVariants.{NotFound}
use Rattle.ignore_files.specs.Tree.{Tree}
use Rattle.ignore_files.specs.declared.types.Contents.{Contents}
use Rattle.ignore_files.specs.declared.types.Metadata.{Metadata}
use Rattle.ignore_files.specs.declared.types.Refusal.{Refusal}
use Rattle.ignore_files.specs.declared.types.Refusal.TheVariants.{Memory}
use Rattle.ignore_files.specs.declared.types.Refusal.TheVariants.{Fault as Refused}
use Rattle.ignore_guide.specs.Answers.{answer_at}
use Rattle.ignore_guide.specs.declared.told.Told.{Told}

-- a path is another at which nothing is, or below it
abbrev pub is_absent : Path → Path → Bool
is_absent lacked path = is_some (strip_prefix_of lacked path)

-- it was told that nothing is at a path
abbrev pub is_lacked : Told → Path → Bool
is_lacked told path = list_any (λ l. is_absent (string_bytes l) path) told.lacked.items

-- what a followed `stat` answers, if that was told: nothing is at what is lacked
abbrev pub kind_told : Told → Path → Option (Result Metadata Fault)
kind_told told path = if is_lacked told path then Some (Err NotFound) else answer_at told.kinds.list.items path

-- an answer that isn't out of memory is this one
abbrev pub OrMemory : {A : Type 0} → Option (Result A Fault) → Result A Refusal → Type 0
OrMemory told (Ok a) = told ≡ Some (Ok a)
OrMemory told (Err (Refused fault)) = told ≡ Some (Err fault)
OrMemory told (Err Memory) = Unit {0}

-- the answers to `stat`, of which those that follow no link aren't told; for contents; and for
-- canonical paths
abbrev pub StatTold : Told → Path → Bool → Result Metadata Refusal → Type 0
StatTold told path follow answer = OrMemory (if follow then kind_told told path else None) answer

abbrev pub ReadTold : Told → Path → Result Contents Refusal → Type 0
ReadTold told path answer = OrMemory (answer_at told.reads.list.items path) answer

abbrev pub CanonicalTold : Told → Path → Result Path Refusal → Type 0
CanonicalTold told path answer = OrMemory (answer_at told.paths.list.items path) answer

-- nothing was told
pub record IsFresh (told : Told) : Type 0 where
  pub kinds : (path : Path) → answer_at told.kinds.list.items path ≡ None
  pub reads : (path : Path) → answer_at told.reads.list.items path ≡ None
  pub paths : (path : Path) → answer_at told.paths.list.items path ≡ None
  pub lacked : told.lacked.items ≡ []

-- nothing was told but what is lacked
pub record IsAlmostFresh (told : Told) : Type 0 where
  pub kinds : (path : Path) → answer_at told.kinds.list.items path ≡ None
  pub reads : (path : Path) → answer_at told.reads.list.items path ≡ None
  pub paths : (path : Path) → answer_at told.paths.list.items path ≡ None

-- what a path leads to, without its size; for any fault nothing is there
abbrev pub kind_alone : Result Metadata Fault → Result Metadata Fault
kind_alone (Ok m) = Ok (record { file_type = m.file_type; len = 0 })
kind_alone (Err fault) = Err NotFound

-- a tree without sizes, in which a fault of `stat` is that nothing is there
abbrev pub without_sizes : Tree → Tree
without_sizes tree = record tree { stat = λ path follow. kind_alone (tree.stat path follow) }

-- a host told what a tree has: what paths lead to but their sizes, what can be read of files, and
-- canonical paths
pub record AreOf (tree : Tree) (told : Told) : Type 0 where
  pub kinds : (path : Path) (answer : Result Metadata Fault) → kind_told told path ≡ Some answer → kind_alone (tree.stat path true) ≡ answer
  pub reads : (path : Path) (answer : Result Contents Fault) → answer_at told.reads.list.items path ≡ Some answer → tree.contents path ≡ answer
  pub paths : (path : Path) (answer : Result Path Fault) → answer_at told.paths.list.items path ≡ Some answer → tree.canonical path ≡ answer
