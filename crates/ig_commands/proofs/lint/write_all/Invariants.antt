use Rattle.std.proofs.Common.{take}
use Rattle.std.specs.Io.KnownBytes.{Appends}
use Rattle.std.specs.List.{flat_map}
use Rattle.ig_commands.specs.Lint.{finding_text}
use Rattle.ig_commands.proofs.lint.write_all.Given as goal

-- what is wrong with the lines so far is written
abbrev pub invariant-loop-diagnostic : goal.invariant-loop-diagnostic
invariant-loop-diagnostic g l =
    Appends (g.W.Output.contents l.fn.out) (g.W.Output.contents l.out) (flat_map (finding_text l.how.options.now l.how.json l.path) (take l.diagnostic-index l.found))
