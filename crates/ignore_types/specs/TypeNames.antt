-- The names that a file type may have.
use Rattle.std.specs.Prelude.{ℕ, Bool, true, false, List, codes, not, ◌&&◌, ◌||◌}
use Rattle.std.specs.List.{list_all}
use Rattle.std.specs.Str.{bytes_eq, chars}
use Rattle.unicode.specs.Binary.{is_alphabetic}
use Rattle.unicode.specs.GeneralCategory.{general_category}
use Rattle.ucd_category.specs.declared.GeneralCategory.{GeneralCategory}
use Rattle.ucd_category.specs.declared.GeneralCategory.TheVariants.{DecimalNumber, LetterNumber, OtherNumber}
use Rattle.ignore_base.specs.Text.{Bytes}

-- one of the categories Nd, Nl and No
abbrev pub is_number : GeneralCategory → Bool
is_number DecimalNumber = true
is_number LetterNumber = true
is_number OtherNumber = true
is_number _ = false

-- the character is alphabetic or a number
abbrev pub is_name_char : ℕ → Bool
is_name_char c = is_alphabetic c || is_number (general_category c)

-- the word for all types
abbrev pub every_type : Bytes
every_type = codes "all"

-- a name that a type may have: not the word for all types, and only characters that are alphabetic
-- or numbers. The empty name is one
abbrev pub is_type_name : Bytes → Bool
is_type_name name = not (bytes_eq name every_type) && list_all is_name_char (chars name)
