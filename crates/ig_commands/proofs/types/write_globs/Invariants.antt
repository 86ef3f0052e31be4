use Rattle.std.proofs.Common.{string_bytes, take}
use Rattle.std.specs.Io.KnownBytes.{Appends}
use Rattle.std.specs.List.{flat_map}
use Rattle.ig_commands.specs.Types.{after_comma}
use Rattle.ig_commands.proofs.types.write_globs.Given as goal

-- the globs so far after the first are written
abbrev pub invariant-loop-glob : goal.invariant-loop-glob
invariant-loop-glob g l =
    Appends (g.W.Output.contents l.initial.out) (g.W.Output.contents l.out)
    (flat_map (λ glob. after_comma (string_bytes glob)) (take l.glob-index l.rest))
