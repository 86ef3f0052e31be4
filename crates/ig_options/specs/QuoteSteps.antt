-- Steps: how a text between quotes is read, a byte at a time.
use Rattle.std.specs.Prelude.{◌≡◌, ◌⊎◌, ℕ, ◌+◌, ◌*◌, ◌<◌, ◌==◌, [], ◌∷◌, ◌++◌, Option, Some, length}
use Rattle.std.specs.List.{find}
use Rattle.std.specs.Option.{option_map}
use Rattle.ignore_base.specs.Text.{Bytes}
use Rattle.ig_options.specs.Quotes.{StandsFor, letter_of, letters}

-- the byte for which a letter stands, if it stands for one
abbrev pub byte_of : ℕ → Option ℕ
byte_of letter = option_map (λ p. p.0) (find (λ p. p.1 == letter) letters)

-- three bytes are the octal digits of this one
pub record IsValue (first second third byte : ℕ) : Type 0 where
  pub a : ℕ
  pub b : ℕ
  pub c : ℕ
  pub a_fits : a < 4
  pub b_fits : b < 8
  pub c_fits : c < 8
  pub first_is : first ≡ 48 + a
  pub second_is : second ≡ 48 + b
  pub third_is : third ≡ 48 + c
  pub sum : byte ≡ a * 64 + (b * 8 + c)

-- they are the digits of none
abbrev pub NoValue : ℕ → ℕ → ℕ → Type 0
NoValue first second third = (byte : ℕ) → ¬ IsValue first second third byte

-- a text begins with three octal digits of a byte, and this follows them
pub record IsOctal (text : Bytes) (byte : ℕ) (after : Bytes) : Type 0 where
  pub first : ℕ
  pub second : ℕ
  pub third : ℕ
  pub cut : text ≡ first ∷ (second ∷ (third ∷ after))
  pub value : IsValue first second third byte

-- it begins with no such digits
abbrev pub NoOctal : Bytes → Type 0
NoOctal text = (byte : ℕ) (after : Bytes) → ¬ IsOctal text byte after

-- a text that follows a backslash begins with the letter of a byte, or with its digits, and this
-- follows them
abbrev pub IsEscaped : Bytes → ℕ → Bytes → Type 0
IsEscaped text byte after =
    ((letter : ℕ) × (text ≡ letter ∷ after) × (letter_of byte ≡ Some letter)) ⊎ IsOctal text byte after

-- it begins with neither
abbrev pub NoEscaped : Bytes → Type 0
NoEscaped text = (byte : ℕ) (after : Bytes) → ¬ IsEscaped text byte after

-- a text that ends in a closing quote stands for these bytes
abbrev pub Closes : Bytes → Bytes → Type 0
Closes text bytes = (inner : Bytes) × (text ≡ inner ++ 34 ∷ []) × StandsFor inner bytes

-- what such a text stands for begins with this byte, and goes on with what the text after it stands
-- for
pub record IsFirst (text : Bytes) (byte : ℕ) (after : Bytes) : Type 0 where
  pub then_so : (bytes : Bytes) → Closes after bytes → Closes text (byte ∷ bytes)
  pub only_so : (bytes : Bytes) → Closes text bytes → (rest : Bytes) × (bytes ≡ byte ∷ rest) × Closes after rest
  pub shorter : length after < length text

-- it stands for nothing, but where it is the closing quote alone
abbrev pub NoFirst : Bytes → Type 0
NoFirst text = (bytes : Bytes) → Closes text bytes → (text ≡ 34 ∷ []) × (bytes ≡ [])
