-- Sizes in bytes, as they are written on a command line.
use Rattle.std.specs.Prelude.{◌≡◌, ◌⊎◌, ℕ, ◌*◌, ◌≤◌, ◌==◌, [], ◌∷◌, ◌++◌, Option, None, Some, if◌then◌else◌}
use Rattle.std.specs.Str.Parse.{IsNumeral, digits_value}
use Rattle.ignore_base.specs.Text.{Bytes}

-- how many bytes a unit has: `K`, `M` or `G`
abbrev pub unit_of : ℕ → Option ℕ
unit_of letter =
    if letter == 75 then Some 1024
    else if letter == 77 then Some 1048576
    else if letter == 71 then Some 1073741824
    else None

-- the greatest size
abbrev pub most_bytes : ℕ
most_bytes = 18446744073709551615

-- a text is the decimal digits of a number, which times this is a size
abbrev pub IsTimes : Bytes → ℕ → ℕ → Type 0
IsTimes digits unit size = IsNumeral 10 digits × (size ≡ digits_value 10 digits * unit) × (size ≤ most_bytes)

-- a text is a size: a number, alone or before the letter of a unit
abbrev pub IsSize : Bytes → ℕ → Type 0
IsSize text size =
    IsTimes text 1 size
    ⊎ ((digits : Bytes) × (letter unit : ℕ) × (text ≡ digits ++ letter ∷ []) × (unit_of letter ≡ Some unit) × IsTimes digits unit size)
