-- Which fields of an answer may be missing.
use Rattle.std.specs.Prelude.{List, [], ◌∷◌, codes, if◌then◌else◌}
use Rattle.std.specs.Str.{bytes_eq}
use Rattle.vectors.specs.Text.{Bytes}

-- the field of a kind that isn't compared: a bound, which a clause states
abbrev pub waiting_fields : Bytes → List Bytes
waiting_fields kind =
    if bytes_eq kind (codes "set") then codes "pass_bound" ∷ [] else []
