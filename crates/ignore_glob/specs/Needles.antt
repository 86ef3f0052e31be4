-- Texts that are in every text that a pattern matches.
use Rattle.std.specs.Prelude.{◌≡◌, ◌⊎◌, List, [], ◌∷◌, ◌++◌, encode_utf8}
use Rattle.std.specs.List.{flat_map}
use Rattle.std.specs.Str.Iter.{HasSubslice}
use Rattle.ignore_base.specs.Text.{Bytes, Chars}

-- the UTF-8 of characters
abbrev pub utf8 : Chars → Bytes
utf8 w = flat_map encode_utf8 w

-- the text begins with this one
abbrev pub BeginsWith : Bytes → Bytes → Type 0
BeginsWith front text = (rest : Bytes) × (text ≡ front ++ rest)

-- one of these texts is in the text
abbrev pub HasOneOf : List Bytes → Bytes → Type 0
HasOneOf [] text = ⊥
HasOneOf (needle ∷ needles) text = HasSubslice text needle ⊎ HasOneOf needles text

-- the text ends with this one, and one of those is in it
abbrev pub EndsAndHas : Bytes → List Bytes → Bytes → Type 0
EndsAndHas run needles text = ((front : Bytes) × (text ≡ front ++ run)) × HasOneOf needles text
