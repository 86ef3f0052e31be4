-- The paths that `why` is asked about.
use Rattle.std.specs.Prelude.{◌≡◌, ◌⊎◌, ℕ, Bool, true, false, not, ◌&&◌, ◌==◌, slice_index}
use Rattle.std.specs.Str.{IsUtf8}
use Rattle.ignore_base.specs.Text.{Bytes}
use Rattle.ig_options.specs.Quotes.{IsQuoteOf}
use Rattle.ig_options.specs.declared.given.Given.{Given}
use Rattle.ig_options.specs.declared.given.Given.TheVariants.{Path, NotText, BadlyQuoted}

-- these bytes are the path, where they are UTF-8; else the number of their record is kept
abbrev pub IsText : Bytes → ℕ → Given → Type 0
IsText bytes number (Path path) = (path ≡ bytes) × IsUtf8 bytes
IsText bytes number (NotText n) = (n ≡ number) × ¬ IsUtf8 bytes
IsText bytes number (BadlyQuoted n) = ⊥

-- a record is unquoted: records don't end in NUL, and it begins with a quote
abbrev pub is_opened : Bool → Bytes → Bool
is_opened has_nul text = not has_nul && slice_index text 0 == 34

-- a record with this number gives a path as it stands; or, where it is unquoted, as what it stands
-- for, and none where it isn't quoted as git quotes a path
abbrev pub Gives : Bool → Bytes → ℕ → Given → Type 0
Gives false text number given = IsText text number given
Gives true text number given =
    ((bytes : Bytes) × IsQuoteOf text bytes × IsText bytes number given)
    ⊎ (((bytes : Bytes) → ¬ IsQuoteOf text bytes) × (given ≡ BadlyQuoted number))
