-- The text of each refusal, and of each error of a change.
use Rattle.std.specs.Prelude.{codes}
use Rattle.ignore_base.specs.Text.{Bytes}
use Rattle.ignore_base.specs.Faults.{fault_text}
use Rattle.ignore_files.specs.declared.types.Refusal.{Refusal}
use Rattle.ignore_files.specs.declared.types.Refusal.TheVariants as refusal
use Rattle.ignore_files.specs.declared.tree_error.TreeError.{TreeError}
use Rattle.ignore_files.specs.declared.tree_error.TreeError.TheVariants.{NotClean, NoParent, Exists, Missing, Memory}

-- the text of a refusal: that of its fault, or that memory ran out
abbrev pub refusal_text : Refusal → Bytes
refusal_text (refusal.Fault fault) = fault_text fault
refusal_text refusal.Memory = codes "out of memory"

-- the text of an error of a change
abbrev pub tree_error_text : TreeError → Bytes
tree_error_text NotClean = codes "path is not clean"
tree_error_text NoParent = codes "no directory to add to"
tree_error_text Exists = codes "already there"
tree_error_text Missing = codes "nothing of the kind there"
tree_error_text Memory = codes "out of memory"
