-- The fault of a number is told to the tree.
use Rattle.std.proofs.Common.{sym}
use Rattle.ignore_c.proofs.Faults.{faulted}
use Rattle.ignore_c.proofs.tree.ignore_tree_fault_stat.Goals as goal

pub returns-in-Some : goal.returns-in-Some
returns-in-Some c = faulted _ c.in-Some.fault _ _ _ _ (sym c.in-Some.ensures) c.replace_with.ensures
