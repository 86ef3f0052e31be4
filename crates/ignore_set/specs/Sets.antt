-- What a set of patterns answers: the last that matches a text and allows its kind.
use Rattle.std.specs.Prelude.{◌≡◌, ◌≤◌, ◌⊎◌, ℕ, ◌+◌, Bool, true, false, List, drop, slice_get, map, All, sum_by, Option, None, Some, refl}
use Rattle.std.specs.Coded.{Coded, code_by, coded×, coded_bool}
use Rattle.ignore_glob.specs.Codes.{reading_code}
use Rattle.ignore_glob.specs.Reading.{Reading, Matches}
use Rattle.ignore_glob.specs.Forms.{Form, whole, name, ending, other, form_of}
use Rattle.ignore_glob.specs.Positions.{positions}
use Rattle.ignore_glob.specs.Words.{has_braces}

-- a pattern of a set, and whether it is for directories only
pub record Member : Type 0 where
  pub reading : Reading
  pub only_dir : Bool

-- the code of a pattern of a set
abbrev pub member_code : Coded Member
member_code =
    code_by (Reading × Bool) (coded× reading_code coded_bool) (λ m. (m.reading, m.only_dir))
    (λ p. record { reading = p.0; only_dir = p.1 }) (λ _. refl)

-- patterns with their flags, in order
abbrev pub members : List (Reading × Bool) → List Member
members pairs = map (λ p. record { reading = p.0; only_dir = p.1 }) pairs

-- a pattern for directories only allows a directory alone, and every other pattern allows all
abbrev pub Allows : Bool → Member → Type 0
Allows is_dir m = (m.only_dir ≡ false) ⊎ (is_dir ≡ true)

-- the pattern matches the text, a list of characters, and allows its kind
abbrev pub Applies : List ℕ → Bool → Member → Type 0
Applies text is_dir m = Allows is_dir m × Matches m.reading text

-- the greatest index of a pattern that applies, or none where none applies
abbrev pub IsLastMatch : List ℕ → Bool → List Member → Option ℕ → Type 0
IsLastMatch text is_dir ms None = All (λ m. Applies text is_dir m → ⊥) ms
IsLastMatch text is_dir ms (Some i) =
    (m : Member) × (slice_get ms i ≡ Some m) × Applies text is_dir m × All (λ later. Applies text is_dir later → ⊥) (drop (i + 1) ms)

-- a glob without braces that has at most 62 positions: to match it no memory is requested
abbrev pub IsShort : Reading → Type 0
IsShort r = (has_braces r.tokens ≡ false) × (positions r.tokens ≤ 62)

-- all of these patterns are such globs
abbrev pub AreShort : List Member → Type 0
AreShort ms = All (λ m. IsShort m.reading) ms

-- the passes over positions that a form may need
abbrev pub form_passes : Form → ℕ
form_passes (whole text) = 0
form_passes (name text) = 0
form_passes (ending text) = 0
form_passes other = 1

-- the passes over positions that a pattern may need
abbrev pub passes_of : Member → ℕ
passes_of m = form_passes (form_of m.reading)

-- how many patterns fold case, or aren't one or more literals, alone or after `**/` or `**/*`
abbrev pub pass_bound : List Member → ℕ
pass_bound ms = sum_by passes_of ms
