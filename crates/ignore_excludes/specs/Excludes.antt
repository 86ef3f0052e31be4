-- The value of `excludesfile` in a configuration of git: a choice among all ways to parse its
-- bytes. 9 tab  10 newline  13 carriage return  32 space  34 `"`  61 `=`
use Rattle.std.specs.Prelude.{◌≡◌, ◌≢◌, ◌<◌, ◌≤◌, ◌⊎◌, ◌||◌, ◌&&◌, ◌==◌, ℕ, Bool, true, false, nat_le, [], ◌∷◌, ◌++◌, map, length, codes}
use Rattle.std.specs.Prelude.{if◌then◌else◌, Option, None, Some, ⊤}
use Rattle.std.specs.List.{AllByRecursion}
use Rattle.std.specs.Char.{to_ascii_lowercase}
use Rattle.std.specs.Str.{IsUtf8}
use Rattle.ignore_base.specs.Text.{Bytes}

-- white space: tab, newline, vertical tab, form feed, carriage return and space
abbrev pub is_space : ℕ → Bool
is_space b = b == 32 || (nat_le 9 b && nat_le b 13)

-- only white space, or nothing; it may cross lines
abbrev pub IsBlank : Bytes → Type 0
IsBlank text = AllByRecursion (λ b. is_space b ≡ true) text

-- the text has no white space
abbrev pub IsSolid : Bytes → Type 0
IsSolid text = AllByRecursion (λ b. is_space b ≡ false) text

-- the text is a prefix for which P holds and then a rest for which Q holds
abbrev pub Then : (Bytes → Type 0) → (Bytes → Type 0) → Bytes → Type 0
Then P Q text = (prefix rest : Bytes) × (text ≡ prefix ++ rest) × P prefix × Q rest

-- a line starts after this text: it is empty or ends with a newline
abbrev pub IsLineStart : Bytes → Type 0
IsLineStart before = (before ≡ []) ⊎ ((lines : Bytes) × (before ≡ lines ++ 10 ∷ []))

-- a line ends before this text: it is empty or begins with a newline
abbrev pub IsLineEnd : Bytes → Type 0
IsLineEnd after = (after ≡ []) ⊎ ((lines : Bytes) × (after ≡ 10 ∷ lines))

-- a `"` where quoted, else nothing
abbrev pub IsQuote : Bool → Bytes → Type 0
IsQuote true prefix = prefix ≡ 34 ∷ []
IsQuote false prefix = prefix ≡ []

-- a `"`, or nothing
abbrev pub IsOptionalQuote : Bytes → Type 0
IsOptionalQuote prefix = (quoted : Bool) × IsQuote quoted prefix

-- an equals sign
abbrev pub IsEquals : Bytes → Type 0
IsEquals prefix = prefix ≡ 61 ∷ []

-- `excludesfile` in any ASCII case
abbrev pub IsKey : Bytes → Type 0
IsKey prefix = map to_ascii_lowercase prefix ≡ codes "excludesfile"

-- white space or none, and then the end of the line
abbrev pub EndsLine : Bytes → Type 0
EndsLine text = Then IsBlank IsLineEnd text

-- what follows the value: white space or none, an optional `"`, and the end of the line
abbrev pub ClosesValue : Bytes → Type 0
ClosesValue text = Then IsBlank (Then IsOptionalQuote EndsLine) text

-- the value, nonempty and without white space, and what follows it
abbrev pub HasValue : Bytes → Bytes → Type 0
HasValue value text = Then (λ prefix. (prefix ≡ value) × (value ≢ []) × IsSolid value) ClosesValue text

-- what follows the equals sign: white space or none, a `"` where the value is quoted, white space
-- or none, and the value
abbrev pub Assigns : Bool → Bytes → Bytes → Type 0
Assigns quoted value text = Then IsBlank (Then (IsQuote quoted) (Then IsBlank (HasValue value))) text

-- the key, white space or none, the equals sign, and what follows it
abbrev pub SetsKey : Bool → Bytes → Bytes → Type 0
SetsKey quoted value text = Then IsKey (Then IsBlank (Then IsEquals (Assigns quoted value))) text

-- one parse of a configuration: this many bytes, which are lines and white space or none; then the
-- key with this value
abbrev pub ReadsAt : Bytes → ℕ → Bool → Bytes → Type 0
ReadsAt text place quoted value =
    (before rest : Bytes) × (text ≡ before ++ rest) × (place ≡ length before) × Then IsLineStart IsBlank before
    × SetsKey quoted value rest

-- the shortest value for which P holds, or none where it holds for no value
abbrev pub IsShortest : (Bytes → Type 0) → Option Bytes → Type 0
IsShortest P None = (value : Bytes) → ¬ P value
IsShortest P (Some value) = P value × ((other : Bytes) → P other → length value ≤ length other)

-- of the parses of one key: those that take a `"` for the quote come first, and then the shortest
-- value
abbrev pub IsPreferred : (Bool → Bytes → Type 0) → Option Bytes → Type 0
IsPreferred R None = (quoted : Bool) (value : Bytes) → ¬ R quoted value
IsPreferred R (Some value) = IsShortest (R true) (Some value) ⊎ (IsShortest (R true) None × IsShortest (R false) (Some value))

-- of all parses: the first key that has one, and the preferred one there
abbrev pub IsChosen : Bytes → Option Bytes → Type 0
IsChosen text None = (place : ℕ) → IsPreferred (ReadsAt text place) None
IsChosen text (Some value) =
    (place : ℕ) × IsPreferred (ReadsAt text place) (Some value) × ((earlier : ℕ) → earlier < place → IsPreferred (ReadsAt text earlier) None)

-- the value of a configuration: the chosen one if it is UTF-8
abbrev pub IsValue : Bytes → Option Bytes → Type 0
IsValue text None = IsChosen text None ⊎ ((value : Bytes) × IsChosen text (Some value) × ¬ IsUtf8 value)
IsValue text (Some value) = IsChosen text (Some value) × IsUtf8 value

-- the text without the white space that it begins with
abbrev pub trimmed_start : Bytes → Bytes
trimmed_start [] = []
trimmed_start (b ∷ bs) = if is_space b then trimmed_start bs else b ∷ bs

-- the text is empty or begins with white space
abbrev pub StartsBlank : Bytes → Type 0
StartsBlank [] = ⊤
StartsBlank (b ∷ bs) = is_space b ≡ true

-- the word without a final `"`, where something else is left; else the word
abbrev pub IsUnquoted : Bytes → Bytes → Type 0
IsUnquoted word value =
    ((value ≢ []) × (word ≡ value ++ 34 ∷ []))
    ⊎ ((value ≡ word) × ((prefix : Bytes) → prefix ≢ [] → word ≢ prefix ++ 34 ∷ []))
