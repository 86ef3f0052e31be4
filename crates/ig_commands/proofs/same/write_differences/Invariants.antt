use Rattle.std.proofs.Common.{take}
use Rattle.std.specs.Io.KnownBytes.{Appends}
use Rattle.ig_commands.specs.Same.{differences_text}
use Rattle.ig_commands.proofs.same.write_differences.Given as goal

-- the differences so far are written
abbrev pub invariant-loop-difference : goal.invariant-loop-difference
invariant-loop-difference g l =
    Appends (g.W.Output.contents l.fn.out) (g.W.Output.contents l.out) (differences_text l.options l.sides (take l.difference-index l.found))
