-- Parsing a row of lexemes to tokens. The neighbours of a run of two stars decide what it means.
-- 47 `/`
use Rattle.std.specs.Prelude.{◌≡◌, ◌≢◌, ◌⊎◌, ℕ, zero, suc, Bool, List, [], ◌∷◌, Ok, Err}
use Rattle.ignore_base.specs.Text.{Chars}
use Rattle.ignore_glob.specs.declared.glob.options.Options.{Options}
use Rattle.ignore_glob.specs.declared.glob.fault.GlobFault.{GlobFault}
use Rattle.ignore_glob.specs.Glob as G
use Rattle.ignore_glob.specs.Glob.{Token, Tokens, done, then, Branches, no_branch, branch}
use Rattle.ignore_glob.specs.Lexing.{Lexeme, char, escaped, any, run, class, opening, comma, closing, Lexed}

-- on the left of a run an escaped slash counts as a slash too: `\/**` is a recursive end
abbrev pub IsSlash : Lexeme → Type 0
IsSlash l = (l ≡ char 47) ⊎ (l ≡ escaped 47)

-- the glob or a branch of braces ends here
pub data Ends : List Lexeme → Type 0 where
  of_glob : Ends []
  at_comma : (ls : List Lexeme) → Ends (comma ∷ ls)
  at_closing : (ls : List Lexeme) → Ends (closing ∷ ls)

-- `**/` n times before this row; on the right of a run an escaped slash doesn't count
abbrev pub stars_before : ℕ → List Lexeme → List Lexeme
stars_before zero ls = ls
stars_before (suc n) ls = run 2 ∷ char 47 ∷ stars_before n ls

-- the row begins with `**/`
abbrev pub BeforeSlash : List Lexeme → Type 0
BeforeSlash ls = (more : List Lexeme) × (ls ≡ run 2 ∷ char 47 ∷ more)

-- the row begins with a `**` that ends the glob or the branch
abbrev pub AtEnd : List Lexeme → Type 0
AtEnd ls = (more : List Lexeme) × (ls ≡ run 2 ∷ more) × Ends more

-- what is left of a place: the start of the glob, the start of a branch, or a lexeme
pub data Left : Type 0 where
  glob_start : Left
  branch_start : Left
  lexeme : Left

-- the glob or a branch starts here
abbrev pub IsStart : Left → Type 0
IsStart glob_start = Unit {0}
IsStart branch_start = Unit {0}
IsStart lexeme = ⊥

-- The row begins with a recursive start: `**/` at a start, or `**` as the whole glob.
-- After a slash a run belongs to the token of the slash.
abbrev pub IsRecursive : Left → List Lexeme → Type 0
IsRecursive glob_start ls = BeforeSlash ls ⊎ (ls ≡ run 2 ∷ [])
IsRecursive branch_start ls = BeforeSlash ls
IsRecursive lexeme ls = ⊥

-- What a row begins with: a token n times and the row after it; braces before this row; or the end.
pub data Meaning : Type 0 where
  gives : ℕ → Token → List Lexeme → Meaning
  braces : List Lexeme → Meaning
  ended : Meaning

-- what a row begins with, given what is left of it
pub data Means : Left → List Lexeme → Meaning → Type 0 where
  -- characters, `?` and classes have a token each
  character : (p : Left) (c : ℕ) (rest : List Lexeme) → c ≢ 47 → Means p (char c ∷ rest) (gives 1 (G.literal c) rest)
  escape : (p : Left) (c : ℕ) (rest : List Lexeme) → c ≢ 47 → Means p (escaped c ∷ rest) (gives 1 (G.literal c) rest)
  question : (p : Left) (rest : List Lexeme) → Means p (any ∷ rest) (gives 1 G.any rest)
  bracket : (p : Left) (negated : Bool) (ranges : List (ℕ × ℕ)) (rest : List Lexeme)
      → Means p (class negated ranges ∷ rest) (gives 1 (G.class negated ranges) rest)
  -- a run that is no recursive start is plain stars: `*`, `***`, `a**`, `{**}`
  stars : (p : Left) (n : ℕ) (rest : List Lexeme) → (IsRecursive p (run n ∷ rest) → ⊥) → Means p (run n ∷ rest) (gives n G.star rest)
  -- a slash with no run of two after it, or with one that has another right neighbour, as in `/**a`
  slash : (p : Left) (l : Lexeme) (rest : List Lexeme) → IsSlash l → (BeforeSlash rest → ⊥) → (AtEnd rest → ⊥)
      → Means p (l ∷ rest) (gives 1 (G.literal 47) rest)
  -- `/**/` is a middle, and further runs at its slash add nothing: `/**/**/`
  middle : (p : Left) (l : Lexeme) (n : ℕ) (rest : List Lexeme) → IsSlash l → (BeforeSlash rest → ⊥) → (AtEnd rest → ⊥)
      → Means p (l ∷ stars_before (suc n) rest) (gives 1 G.middle rest)
  -- `/**` at the end is an end, after a middle too: `/**/**`
  end : (p : Left) (l : Lexeme) (n : ℕ) (rest : List Lexeme) → IsSlash l → Ends rest
      → Means p (l ∷ stars_before n (run 2 ∷ rest)) (gives 1 G.end rest)
  -- `**/` at a start is a recursive start, and further runs at its slash add nothing: `**/**/`,
  -- `**/**`
  start : (p : Left) (n : ℕ) (rest : List Lexeme) → IsStart p → (BeforeSlash rest → ⊥) → (AtEnd rest → ⊥)
      → Means p (stars_before (suc n) rest) (gives 1 G.start rest)
  start_to_end : (p : Left) (n : ℕ) (rest : List Lexeme) → IsStart p → Ends rest
      → Means p (stars_before (suc n) (run 2 ∷ rest)) (gives 1 G.start rest)
  -- `**` as the whole glob
  alone : Means glob_start (run 2 ∷ []) (gives 1 G.start [])
  -- braces are parsed by themselves; a comma, a closing brace or nothing is the end
  opens : (p : Left) (rest : List Lexeme) → Means p (opening ∷ rest) (braces rest)
  ends : (p : Left) (rest : List Lexeme) → Ends rest → Means p rest ended

-- a token n times before these
abbrev pub times : ℕ → Token → Tokens → Tokens
times zero t ts = ts
times (suc n) t ts = then t (times n t ts)

-- a branch before others; an empty branch is dropped: `{,a,}` has one branch
abbrev pub add_branch : Tokens → Branches → Branches
add_branch done bs = bs
add_branch (then t ts) bs = branch (then t ts) bs

mutual
  -- the row, given what is left of it, has these tokens up to an end, and then this rest
  pub data Row : Left → List Lexeme → Tokens → List Lexeme → Type 0 where
    nothing : (p : Left) (ls : List Lexeme) → Means p ls ended → Row p ls done ls
    further : (p : Left) (ls mid rest : List Lexeme) (n : ℕ) (t : Token) (ts : Tokens) → Means p ls (gives n t mid) → Row lexeme mid ts rest
        → Row p ls (times n t ts) rest
    nested : (p : Left) (ls inner after rest : List Lexeme) (bs : Branches) (ts : Tokens) → Means p ls (braces inner) → Inner inner bs after
        → Row lexeme after ts rest → Row p ls (then (G.alternates bs) ts) rest

  -- the row has these branches, then a closing brace, and then this rest
  pub data Inner : List Lexeme → Branches → List Lexeme → Type 0 where
    last_branch : (ls rest : List Lexeme) (ts : Tokens) → Row branch_start ls ts (closing ∷ rest) → Inner ls (add_branch ts no_branch) rest
    further_branch : (ls mid rest : List Lexeme) (ts : Tokens) (bs : Branches) → Row branch_start ls ts (comma ∷ mid) → Inner mid bs rest
        → Inner ls (add_branch ts bs) rest

-- the text parses to these tokens: it lexes to a row of lexemes that has them
abbrev pub Reads : Options → Chars → Tokens → Type 0
Reads o text tokens = (row : List Lexeme) × Lexed o 0 text (Ok row) × Row glob_start row tokens []

-- the text is an invalid glob: its leftmost error is this
abbrev pub IsFaulty : Options → Chars → GlobFault → Type 0
IsFaulty o text f = Lexed o 0 text (Err f)
