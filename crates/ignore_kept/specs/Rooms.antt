-- What becomes of a room of C's that a text is put into.
use Rattle.std.specs.Prelude.{◌++◌, length, take, drop}
use Rattle.ignore_base.specs.Text.{Bytes}

-- the first bytes of the text, as many as there is room for, and then the bytes of the room that
-- follow in their places: the text `ab` makes `abz` of the room `xyz`, and `a` of the room `x`
abbrev pub put_in : Bytes → Bytes → Bytes
put_in text room = take (length room) text ++ drop (length text) room
