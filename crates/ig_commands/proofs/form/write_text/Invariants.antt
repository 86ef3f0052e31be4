use Rattle.std.proofs.Common.{◌∷◌, take}
use Rattle.std.specs.Io.KnownBytes.{Appends}
use Rattle.std.specs.List.{flat_map}
use Rattle.ig_options.specs.Quotes.{quoted_byte}
use Rattle.ig_commands.proofs.form.write_text.Given as goal

-- the quote and the bytes so far are written
abbrev pub invariant-loop-byte : goal.invariant-loop-byte
invariant-loop-byte g l =
    Appends (g.W.Output.contents l.fn.out) (g.W.Output.contents l.out) (34 ∷ flat_map quoted_byte (take l.byte-index l.bytes))
