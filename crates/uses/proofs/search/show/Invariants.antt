use Rattle.std.proofs.Common.{take}
use Rattle.std.specs.Io.KnownBytes.{Appends}
use Rattle.std.specs.List.{flat_map}
use Rattle.uses.specs.Searched.{hit_line}
use Rattle.uses.proofs.search.show.Given as goal

-- the hits so far are written
abbrev pub invariant-loop-hit : goal.invariant-loop-hit
invariant-loop-hit g l = Appends (g.W.Write.contents l.fn.out) (g.W.Write.contents l.out) (flat_map hit_line (take l.hit-index l.hits))
