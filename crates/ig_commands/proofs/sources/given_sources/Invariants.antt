use Rattle.std.proofs.Common.{◌≡◌, take}
use Rattle.std.specs.List.{flat_map}
use Rattle.ig_commands.specs.Lint.{given_path}
use Rattle.ig_commands.proofs.sources.given_sources.Given as goal

-- the paths so far
abbrev pub invariant-loop-given : goal.invariant-loop-given
invariant-loop-given l = l.outside.items ≡ flat_map given_path (take l.given-index l.given-items)
