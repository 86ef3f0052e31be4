-- A name for lists of numbers that are bytes.
use Rattle.std.specs.Prelude.{ℕ, List}

-- the bytes of a text
abbrev pub Bytes : Type 0
Bytes = List ℕ
