-- Matching as a test that computes, so that an answer is a function: each way to cut the text is
-- tried.
use Rattle.std.specs.Prelude.{◌==◌, ℕ, Bool, true, false, not, ◌&&◌, ◌||◌, List, [], ◌∷◌}
use Rattle.std.specs.List.{list_all}
use Rattle.ignore_base.specs.Text.{Chars, is_slash}
use Rattle.ignore_glob.specs.Glob.{Token, literal, any, star, start, middle, end, class, alternates, Tokens, done, then, Branches}
use Rattle.ignore_glob.specs.Glob.{no_branch, branch}
use Rattle.ignore_glob.specs.Matches.{other_case, is_listed}
use Rattle.ignore_glob.specs.Reading.{Reading}

-- some way to cut the text in two passes
abbrev pub some_split : (Chars → Chars → Bool) → Chars → Bool
some_split p [] = p [] []
some_split p (c ∷ cs) = p [] (c ∷ cs) || some_split (λ a b. p (c ∷ a) b) cs

-- the text is one character that passes
abbrev pub is_one : (ℕ → Bool) → Chars → Bool
is_one p [] = false
is_one p (c ∷ []) = p c
is_one p (c ∷ (d ∷ ds)) = false

-- the text is empty
abbrev pub is_empty : Chars → Bool
is_empty [] = true
is_empty (c ∷ cs) = false

-- the text begins with a slash
abbrev pub begins_with_slash : Chars → Bool
begins_with_slash [] = false
begins_with_slash (c ∷ cs) = is_slash c

-- the text ends with a slash
abbrev pub is_last_slash : Chars → Bool
is_last_slash [] = false
is_last_slash (c ∷ cs) = (is_empty cs && is_slash c) || is_last_slash cs

-- the character d is c, or where case is folded the other case of c
abbrev pub is_case_of : Bool → ℕ → ℕ → Bool
is_case_of false c d = d == c
is_case_of true c d = d == c || d == other_case c

-- the character is in the class
abbrev pub is_member : Bool → Bool → List (ℕ × ℕ) → ℕ → Bool
is_member fold false ranges c = is_listed fold ranges c
is_member fold true ranges c = not (is_listed fold ranges c)

-- there is no branch
abbrev pub has_no_branch : Branches → Bool
has_no_branch no_branch = true
has_no_branch (branch ts bs) = false

-- whether a token, tokens in their order, and some branch match the text
abbrev mutual
  pub does_token_match : Bool → Token → Chars → Bool
  does_token_match fold (literal c) w = is_one (is_case_of fold c) w
  does_token_match fold any w = is_one (λ d. not (is_slash d)) w
  does_token_match fold star w = list_all (λ d. not (is_slash d)) w
  does_token_match fold start w = is_empty w || is_last_slash w
  does_token_match fold middle w = begins_with_slash w && is_last_slash w
  does_token_match fold end w = begins_with_slash w
  does_token_match fold (class negated ranges) w = is_one (is_member fold negated ranges) w
  does_token_match fold (alternates bs) w = (has_no_branch bs && is_empty w) || does_branch_match fold bs w

  pub do_tokens_match : Bool → Tokens → Chars → Bool
  do_tokens_match fold done w = is_empty w
  do_tokens_match fold (then t ts) w = some_split (λ a b. does_token_match fold t a && do_tokens_match fold ts b) w

  pub does_branch_match : Bool → Branches → Chars → Bool
  does_branch_match fold no_branch w = false
  does_branch_match fold (branch ts bs) w = do_tokens_match fold ts w || does_branch_match fold bs w

-- a glob that is one recursive start
abbrev pub is_lone_start : Tokens → Bool
is_lone_start (then start done) = true
is_lone_start _ = false

-- whether a pattern matches the text
unfoldable pub does_match : Reading → Chars → Bool
does_match reading w = is_lone_start reading.tokens || do_tokens_match reading.case_insensitive reading.tokens w
