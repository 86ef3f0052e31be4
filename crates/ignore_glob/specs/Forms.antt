-- The forms of patterns for which a text can be looked up: literals, alone or after `**/` or
-- `**/*`.
use Rattle.std.specs.Prelude.{ℕ, Bool, true, false, List, [], ◌∷◌, ◌++◌, Option, None, Some, string_bytes, encode_utf8, cond}
use Rattle.std.specs.Option.{option_map}
use Rattle.ignore_glob.specs.declared.glob.key.Key.{Key}
use Rattle.ignore_glob.specs.declared.glob.key.Key.TheVariants.{Whole, Name, End, Other}
use Rattle.ignore_glob.specs.Glob.{Token, literal, any, star, start, middle, end, class, alternates, Tokens, done, then}
use Rattle.ignore_glob.specs.Reading.{Reading}

-- the character of a literal
abbrev pub literal_of : Token → Option ℕ
literal_of (literal c) = Some c
literal_of _ = None

-- the token is a recursive start
abbrev pub is_start : Token → Bool
is_start start = true
is_start _ = false

-- the token is a star
abbrev pub is_star : Token → Bool
is_star star = true
is_star _ = false

-- a character, in UTF-8, before a text, where there are both
abbrev pub before : Option ℕ → Option (List ℕ) → Option (List ℕ)
before None text = None
before (Some c) text = option_map (λ bytes. encode_utf8 c ++ bytes) text

-- the text, in UTF-8, that tokens stand for which are literals alone
abbrev pub literals : Tokens → Option (List ℕ)
literals done = Some []
literals (then t ts) = before (literal_of t) (literals ts)

-- a pattern that matches one text; that matches what has this text as its last components; that
-- matches what ends so; any other
pub data Form : Type 0 where
  whole : List ℕ → Form
  name : List ℕ → Form
  ending : List ℕ → Form
  other : Form

-- the form with this text, where there is one that isn't empty
abbrev pub keyed : (List ℕ → Form) → Option (List ℕ) → Form
keyed form None = other
keyed form (Some []) = other
keyed form (Some (b ∷ bytes)) = form (b ∷ bytes)

-- after `**/`: literals, or a star and literals
abbrev pub below_form : Tokens → Form
below_form done = other
below_form (then t ts) = cond (is_star t) (keyed ending (literals ts)) (keyed name (literals (then t ts)))

-- literals, or what follows `**/`
abbrev pub tokens_form : Tokens → Form
tokens_form done = other
tokens_form (then t ts) = cond (is_start t) (below_form ts) (keyed whole (literals (then t ts)))

-- a pattern that folds case is of no form that can be looked up
abbrev pub form_of : Reading → Form
form_of reading = cond reading.case_insensitive other (tokens_form reading.tokens)

-- the form that a key of the program stands for
abbrev pub key_form : Key → Form
key_form (Whole text) = whole (string_bytes text)
key_form (Name text) = name (string_bytes text)
key_form (End text) = ending (string_bytes text)
key_form Other = other
