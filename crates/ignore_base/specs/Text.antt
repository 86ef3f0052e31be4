-- Names for lists of numbers that stand for different things, and the slash.
use Rattle.std.specs.Prelude.{ℕ, Bool, ◌==◌, List}

-- the bytes of a text or of a file
abbrev pub Bytes : Type 0
Bytes = List ℕ

-- the characters of a text, each as its number in Unicode
abbrev pub Chars : Type 0
Chars = List ℕ

-- the bytes of a path
abbrev pub Path : Type 0
Path = List ℕ

-- the character `/`, which is also the byte
abbrev pub slash : ℕ
slash = 47

-- the character or the byte is a slash
abbrev pub is_slash : ℕ → Bool
is_slash c = c == slash
