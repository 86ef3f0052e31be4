-- Names that aren't UTF-8: those of a folder are counted, and told in one line.
use Rattle.std.specs.Prelude.{ℕ, nat_lt, true, [], ◌∷◌, ◌++◌, ◌==◌, codes, Option, None, Some, if◌then◌else◌}
use Rattle.std.specs.Fmt.{decimal}
use Rattle.std.specs.Str.{bytes_eq}
use Rattle.ignore_base.specs.Text.{Bytes, Path}
use Rattle.ig_commands.specs.Counts.{one_more}
use Rattle.ig_commands.specs.declared.names.Unnamed.{Unnamed}

-- how many names, in words, and the end of the line
abbrev pub names_text : ℕ → Bytes
names_text n = if n == 1 then codes "1 name isn't UTF-8" ++ 10 ∷ [] else decimal n ++ (codes " names aren't UTF-8" ++ 10 ∷ [])

-- the line that tells them, after where they are
abbrev pub names_line : Unnamed → Bytes
names_line u = codes "ig: " ++ (u.place ++ (codes ": " ++ names_text u.count))

-- the line, if there are any
abbrev pub names_told : Option Unnamed → Bytes
names_told None = []
names_told (Some u) = names_line u

-- the first name at a place
abbrev pub first_name : Path → ℕ → Unnamed
first_name place depth = record { place = place; depth = depth; count = 1 }

-- what is counted, with one more name: at the same place, or at another one, which begins anew
abbrev pub with_name : Path → ℕ → Option Unnamed → Unnamed
with_name place depth None = first_name place depth
with_name place depth (Some u) =
    if bytes_eq u.place place then record { place = u.place; depth = u.depth; count = one_more u.count true } else first_name place depth

-- what is told at one more name: what was counted at another place
abbrev pub told_before : Path → Option Unnamed → Bytes
told_before place None = []
told_before place (Some u) = if bytes_eq u.place place then [] else names_line u

-- what is told at an entry of this depth: what was counted deeper, since that folder is left
abbrev pub told_at : ℕ → Option Unnamed → Bytes
told_at depth None = []
told_at depth (Some u) = if nat_lt depth u.depth then names_line u else []

-- what is still to be told then
abbrev pub still : ℕ → Option Unnamed → Option Unnamed
still depth None = None
still depth (Some u) = if nat_lt depth u.depth then None else Some u
