use Rattle.std.proofs.Common.{◌≡◌, ◌++◌, string_bytes, take}
use Rattle.std.specs.List.{flat_map}
use Rattle.ig_every.specs.Texts.{after_comma}
use Rattle.ig_every.proofs.texts.push_lines.Given as goal

-- the numbers so far after the first are added
abbrev pub invariant-loop-line : goal.invariant-loop-line
invariant-loop-line l = string_bytes l.text ≡ string_bytes l.initial.text ++ flat_map after_comma (take l.line-index l.more)
