use Rattle.std.proofs.Common.{◌≡◌, map, take}
use Rattle.serde_json.specs.View.{view}
use Rattle.ig_every.specs.Texts.{number_data}
use Rattle.ig_every.proofs.texts.numbers.Given as goal

-- the numbers so far
abbrev pub invariant-loop-line : goal.invariant-loop-line
invariant-loop-line l = map view l.values.items ≡ map number_data (take l.line-index l.lines)
