use Rattle.std.proofs.Common.{◌≡◌, map, take}
use Rattle.ignore_files.specs.Table.{given}
use Rattle.ignore_files.proofs.table.given.Given as goal

abbrev pub invariant-loop-entry : goal.invariant-loop-entry
invariant-loop-entry l = l.all.items ≡ map given (take l.entry-index l.entries)
