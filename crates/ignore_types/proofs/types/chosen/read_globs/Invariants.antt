-- The globs so far are read.
use Rattle.std.proofs.Common.{map, take, string_bytes}
use Rattle.std.specs.List.{AllZip}
use Rattle.ignore_types.specs.Building.{IsReadAs}
use Rattle.ignore_types.proofs.types.chosen.read_globs.Given as goal

abbrev pub invariant-loop-glob : goal.invariant-loop-glob
invariant-loop-glob l = AllZip IsReadAs (map string_bytes (take l.glob-index l.globs)) l.all.items
