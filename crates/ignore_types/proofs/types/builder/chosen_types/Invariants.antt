-- The choices so far are built.
use Rattle.std.proofs.Common.{take}
use Rattle.std.specs.List.{AllZip}
use Rattle.ignore_types.specs.Building.{IsChosen}
use Rattle.ignore_types.proofs.types.builder.chosen_types.Given as goal

abbrev pub invariant-loop-selection : goal.invariant-loop-selection
invariant-loop-selection l = AllZip (IsChosen l.types) (take l.selection-index l.selections) l.all.items
