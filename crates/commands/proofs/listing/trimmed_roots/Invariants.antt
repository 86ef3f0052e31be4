use Rattle.std.proofs.Common.{map, string_bytes, take}
use Rattle.std.specs.List.{AllZip}
use Rattle.commands.specs.Walking.{IsTrimmed}
use Rattle.commands.proofs.listing.trimmed_roots.Given as goal

-- the roots so far are trimmed
abbrev pub invariant-loop-root : goal.invariant-loop-root
invariant-loop-root l = AllZip IsTrimmed (map string_bytes (take l.root-index l.roots)) l.names.items
