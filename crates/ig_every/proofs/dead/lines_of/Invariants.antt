use Rattle.std.proofs.Common.{◌≡◌, map, take}
use Rattle.ig_every.specs.Judged.{line_in}
use Rattle.ig_every.proofs.dead.lines_of.Given as goal

-- the lines of the rules so far
abbrev pub invariant-loop-index : goal.invariant-loop-index
invariant-loop-index l = l.lines.items ≡ map (line_in l.rules) (take l.index-index l.indices)
