-- The texts that a glob matches. Some way to cut the text fits the tokens: no position occurs.
use Rattle.std.specs.Prelude.{◌≡◌, ◌≢◌, ◌⊎◌, ℕ, Bool, true, false, List, [], ◌∷◌, ◌++◌, All, IsTrue, nat_le, ◌&&◌, ◌||◌, cond}
use Rattle.std.specs.List.{list_any}
use Rattle.std.specs.Char.{is_ascii_lowercase, to_ascii_uppercase, to_ascii_lowercase}
use Rattle.ignore_base.specs.Text.{Chars}
pub use Rattle.ignore_base.specs.Text.{slash}
use Rattle.ignore_glob.specs.Glob.{Token, literal, any, star, start, middle, end, class, alternates, Tokens, done, then, Branches}
use Rattle.ignore_glob.specs.Glob.{no_branch, branch}

-- the text begins with a slash
abbrev pub BeginsWithSlash : Chars → Type 0
BeginsWithSlash w = (b : Chars) × (w ≡ slash ∷ b)

-- the text ends with a slash
abbrev pub EndsWithSlash : Chars → Type 0
EndsWithSlash w = (a : Chars) × (w ≡ a ++ slash ∷ [])

-- the other ASCII case of a letter, and any other character itself: a for A, é for é
abbrev pub other_case : ℕ → ℕ
other_case c = cond (is_ascii_lowercase c) (to_ascii_uppercase c) (to_ascii_lowercase c)

-- the character d is c, or where case is folded the other case of c
abbrev pub IsCaseOf : Bool → ℕ → ℕ → Type 0
IsCaseOf false c d = d ≡ c
IsCaseOf true c d = (d ≡ c) ⊎ (d ≡ other_case c)

-- the character is in one of the ranges, each from its first to its last
abbrev pub in_ranges : List (ℕ × ℕ) → ℕ → Bool
in_ranges ranges c = list_any (λ r. nat_le r.0 c && nat_le c r.1) ranges

-- the character, or where case is folded its other case, is in one of the ranges
abbrev pub is_listed : Bool → List (ℕ × ℕ) → ℕ → Bool
is_listed false ranges c = in_ranges ranges c
is_listed true ranges c = in_ranges ranges c || in_ranges ranges (other_case c)

-- a class has what is listed, and a negated class what is not: [!a] has the slash
abbrev pub IsMember : Bool → Bool → List (ℕ × ℕ) → ℕ → Type 0
IsMember fold false ranges c = IsTrue (is_listed fold ranges c)
IsMember fold true ranges c = IsTrue (is_listed fold ranges c) → ⊥

-- The texts that a token matches, that tokens match in their order, and that some branch matches.
-- The first argument says whether ASCII case is folded. So a/**/b matches a/b: its middle matches
-- the slash.
abbrev mutual
  pub token_matches : Bool → Token → Chars → Type 0
  token_matches fold (literal c) w = (d : ℕ) × (w ≡ d ∷ []) × IsCaseOf fold c d
  token_matches fold any w = (d : ℕ) × (w ≡ d ∷ []) × (d ≢ slash)
  token_matches fold star w = All (λ d. d ≢ slash) w
  token_matches fold start w = (w ≡ []) ⊎ EndsWithSlash w
  token_matches fold middle w = BeginsWithSlash w × EndsWithSlash w
  token_matches fold end w = BeginsWithSlash w
  token_matches fold (class negated ranges) w = (d : ℕ) × (w ≡ d ∷ []) × IsMember fold negated ranges d
  token_matches fold (alternates bs) w = ((bs ≡ no_branch) × (w ≡ [])) ⊎ branch_matches fold bs w

  pub tokens_match : Bool → Tokens → Chars → Type 0
  tokens_match fold done w = w ≡ []
  tokens_match fold (then t ts) w = (a b : Chars) × (w ≡ a ++ b) × token_matches fold t a × tokens_match fold ts b

  pub branch_matches : Bool → Branches → Chars → Type 0
  branch_matches fold no_branch w = ⊥
  branch_matches fold (branch ts bs) w = tokens_match fold ts w ⊎ branch_matches fold bs w

-- a glob that is one recursive start matches everything; a branch that is one doesn't
abbrev pub glob_matches : Bool → Tokens → Chars → Type 0
glob_matches fold ts w = (ts ≡ then start done) ⊎ tokens_match fold ts w
