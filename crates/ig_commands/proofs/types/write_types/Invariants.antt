use Rattle.std.proofs.Common.{take}
use Rattle.std.specs.Io.KnownBytes.{Appends}
use Rattle.std.specs.List.{flat_map}
use Rattle.ig_commands.specs.Types.{type_line}
use Rattle.ig_commands.proofs.types.write_types.Given as goal

-- the types so far are written
abbrev pub invariant-loop-definition : goal.invariant-loop-definition
invariant-loop-definition g l =
    Appends (g.W.Output.contents l.fn.out) (g.W.Output.contents l.out) (flat_map type_line (take l.definition-index l.definitions))
