-- A tree of files: five functions of a path, with faults among their answers.
use Rattle.std.specs.Prelude.{◌≡◌, Bool, List, Result, Ok, Err, Option}
use Rattle.ignore_base.specs.Text.{Path}
use Rattle.ignore_base.specs.declared.fault.Fault.{Fault}
use Rattle.ignore_files.specs.declared.types.Refusal.{Refusal}
use Rattle.ignore_files.specs.declared.types.Refusal.TheVariants.{Memory}
use Rattle.ignore_files.specs.declared.types.Refusal.TheVariants.{Fault as Refused}
use Rattle.ignore_files.specs.declared.types.Metadata.{Metadata}
use Rattle.ignore_files.specs.declared.types.Listed.{Listed}
use Rattle.ignore_files.specs.declared.types.Contents.{Contents}
use Rattle.ignore_files.specs.declared.types.Identity.{Identity}

-- a tree: the metadata at a path (the flag says whether a last link is followed), the listing of a
-- directory, the contents of a file, the canonical path, and the identity at a path
pub record Tree : Type 0 where
  pub stat : Path → Bool → Result Metadata Fault
  pub list : Path → Result (List Listed) Fault
  pub contents : Path → Result Contents Fault
  pub canonical : Path → Result Path Fault
  pub identity : Path → Bool → Result (Option Identity) Fault

-- the answer is the tree's, unless it is out of memory
abbrev pub Answers : {A : Type 0} → Result A Fault → Result A Refusal → Type 0
Answers reported (Ok a) = reported ≡ Ok a
Answers reported (Err (Refused fault)) = reported ≡ Err fault
Answers reported (Err Memory) = Unit {0}
