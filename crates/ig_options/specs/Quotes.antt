-- Quotes of paths, as git writes them.
use Rattle.std.specs.Prelude.{◌≡◌, ℕ, ◌+◌, ◌*◌, ◌/◌, ◌%◌, ◌<◌, ◌==◌, nat_lt, Bool, false, not, ◌||◌, List, [], ◌∷◌, ◌++◌, Option, None, Some, if◌then◌else◌}
use Rattle.std.specs.List.{find, flat_map, list_any}
use Rattle.std.specs.Option.{option_map}
use Rattle.ignore_base.specs.Text.{Bytes}

-- the bytes that have a letter, each with it: `\a \b \t \n \v \f \r`, the quote and the backslash
abbrev pub letters : List (ℕ × ℕ)
letters =
    (7, 97) ∷ ((8, 98) ∷ ((9, 116) ∷ ((10, 110) ∷ ((11, 118) ∷ ((12, 102) ∷ ((13, 114) ∷ ((34, 34) ∷ ((92, 92) ∷ []))))))))

-- the letter of a byte, if it has one
abbrev pub letter_of : ℕ → Option ℕ
letter_of byte = option_map (λ p. p.1) (find (λ p. p.0 == byte) letters)

-- a byte is written after a backslash: control characters, quotes, backslashes, and all that isn't
-- ASCII
abbrev pub is_quoted : ℕ → Bool
is_quoted byte = nat_lt byte 32 || (not (nat_lt byte 127) || (byte == 34 || byte == 92))

-- the three octal digits of a byte
abbrev pub octal : ℕ → Bytes
octal byte = (48 + (byte / 64)) ∷ ((48 + ((byte / 8) % 8)) ∷ ((48 + (byte % 8)) ∷ []))

-- what stands for a byte after a backslash: its letter, or else its digits
abbrev pub stands_for : Option ℕ → ℕ → Bytes
stands_for (Some letter) byte = letter ∷ []
stands_for None byte = octal byte

-- a byte between quotes
abbrev pub quoted_byte : ℕ → Bytes
quoted_byte byte = if is_quoted byte then 92 ∷ stands_for (letter_of byte) byte else byte ∷ []

-- a text as git writes it: between quotes, where a byte of it must be quoted
abbrev pub quoted : Bytes → Bytes
quoted text = if list_any is_quoted text then 34 ∷ (flat_map quoted_byte text ++ 34 ∷ []) else text

-- a text between quotes stands for some bytes: each of them stands as it is, where it is neither a
-- quote nor a backslash, or after a backslash, as its letter or its three octal digits
pub data StandsFor : Bytes → Bytes → Type 0 where
  none : StandsFor [] []
  as_it_is : (byte : ℕ) (text bytes : Bytes) → (byte == 34 || byte == 92) ≡ false → StandsFor text bytes
      → StandsFor (byte ∷ text) (byte ∷ bytes)
  by_letter : (byte letter : ℕ) (text bytes : Bytes) → letter_of byte ≡ Some letter → StandsFor text bytes
      → StandsFor (92 ∷ (letter ∷ text)) (byte ∷ bytes)
  by_digits : (a b c : ℕ) (text bytes : Bytes) → a < 4 → b < 8 → c < 8 → StandsFor text bytes
      → StandsFor (92 ∷ ((48 + a) ∷ ((48 + b) ∷ ((48 + c) ∷ text)))) ((a * 64 + (b * 8 + c)) ∷ bytes)

-- a quoted text, with its quotes, stands for some bytes
abbrev pub IsQuoteOf : Bytes → Bytes → Type 0
IsQuoteOf text bytes = (inner : Bytes) × (text ≡ 34 ∷ (inner ++ 34 ∷ [])) × StandsFor inner bytes
