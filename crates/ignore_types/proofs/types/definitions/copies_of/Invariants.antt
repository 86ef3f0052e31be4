-- The types so far are copied.
use Rattle.std.proofs.Common.{take}
use Rattle.std.specs.List.{AllZip}
use Rattle.ignore_types.specs.Types.{IsSortedCopy}
use Rattle.ignore_types.proofs.types.definitions.copies_of.Given as goal

abbrev pub invariant-loop-definition : goal.invariant-loop-definition
invariant-loop-definition l = AllZip IsSortedCopy (take l.definition-index l.types) l.copies.items
