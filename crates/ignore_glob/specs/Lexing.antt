-- Lexing a glob: its lexemes from the left, or the leftmost error. Row has the meaning of lexemes.
-- 42 `*`  63 `?`  92 `\`  91 `[`  93 `]`  33 `!`  94 `^`  45 `-`  123 `{`  44 `,`  125 `}`
use Rattle.std.specs.Prelude.{◌≡◌, ◌≢◌, ◌<◌, ◌≤◌, ℕ, zero, suc, Bool, true, false, ◌&&◌, ◌||◌, ◌==◌, if◌then◌else◌, nat_le, List, [], ◌∷◌}
use Rattle.std.specs.Prelude.{◌++◌, map, replicate, Result, Ok, Err}
use Rattle.std.specs.List.{AllByRecursion, list_all}
use Rattle.ignore_base.specs.Text.{Chars}
use Rattle.ignore_glob.specs.declared.glob.options.Options.{Options}
use Rattle.ignore_glob.specs.declared.glob.fault.GlobFault.{GlobFault}
use Rattle.ignore_glob.specs.declared.glob.fault.GlobFault.TheVariants.{UnclosedClass, InvalidRange, UnopenedAlternates, UnclosedAlternates}
use Rattle.ignore_glob.specs.declared.glob.fault.GlobFault.TheVariants.{DanglingEscape, TooDeep}

-- one lexeme
pub data Lexeme : Type 0 where
  -- a character that stands for itself
  char : ℕ → Lexeme
  -- a backslash and this character
  escaped : ℕ → Lexeme
  -- `?`
  any : Lexeme
  -- a maximal run of this many stars
  run : ℕ → Lexeme
  -- a class in brackets: whether it is negated, and its ranges
  class : Bool → List (ℕ × ℕ) → Lexeme
  -- `{`, a `,` inside braces, `}`
  opening : Lexeme
  comma : Lexeme
  closing : Lexeme

-- a place at this depth is inside braces
abbrev pub is_inside : ℕ → Bool
is_inside zero = false
is_inside (suc d) = true

-- the special characters: `?` `*` `\` `[` `{` `}`, and `,` inside braces
abbrev pub is_special : ℕ → ℕ → Bool
is_special d c = c == 63 || c == 42 || c == 92 || c == 91 || c == 123 || c == 125 || (c == 44 && is_inside d)

-- the text doesn't begin with a star
abbrev pub NoStarFirst : Chars → Type 0
NoStarFirst text = (more : Chars) → text ≡ 42 ∷ more → ⊥

-- one `!` or `^` after the `[` negates: `[!a]` and `[^a]`, and `[!!]` matches all but `!`
abbrev pub is_negated : Chars → Bool
is_negated [] = false
is_negated (c ∷ cs) = c == 33 || c == 94

-- the text of a class after its sign, if it has one
abbrev pub after_sign : Chars → Chars
after_sign [] = []
after_sign (c ∷ cs) = if c == 33 || c == 94 then cs else c ∷ cs

-- The body of a class has at least one character, which may be a `]`; the next `]` closes the
-- class: `[]a]` has the body `]a`.
abbrev pub Closes : Chars → Chars → Chars → Type 0
Closes text body rest =
    (first : ℕ) × (more : Chars) × (body ≡ first ∷ more) × AllByRecursion (λ c. c ≢ 93) more × (text ≡ first ∷ (more ++ 93 ∷ rest))

-- the text of the ends of a range: a `-` and a character for each, so `-b-d` for b and d
abbrev pub turns : Chars → Chars
turns [] = []
turns (e ∷ ends) = 45 ∷ e ∷ turns ends

-- the text doesn't begin with a `-` and a further character
abbrev pub NoTurn : Chars → Type 0
NoTurn text = (e : ℕ) (more : Chars) → text ≡ 45 ∷ e ∷ more → ⊥

-- The body of a class is a row of items: a character, and all ends that follow it.
-- `a-c-ex` is the item a with the ends c and e, and the item x; `a-` is two items.
abbrev pub Items : Chars → List (ℕ × Chars) → Type 0
Items body [] = body ≡ []
Items body (item ∷ items) = (rest : Chars) × (body ≡ item.0 ∷ (turns item.1 ++ rest)) × NoTurn rest × Items rest items

-- no end is below the first character of its item: `a-c-b` is in order, `c-d-a` is not
abbrev pub are_in_order : List (ℕ × Chars) → Bool
are_in_order = list_all (λ item. list_all (nat_le item.0) item.1)

-- the last of the ends, or the character itself
abbrev pub last_end : ℕ → Chars → ℕ
last_end c [] = c
last_end c (e ∷ ends) = last_end e ends

-- an item is the range from its character to its last end
abbrev pub ranges : List (ℕ × Chars) → List (ℕ × ℕ)
ranges = map (λ item. (item.0, last_end item.0 item.1))

-- What a text begins with: a lexeme, the text after it and the depth there; an error; or the end.
pub data Step : Type 0 where
  lexeme : Lexeme → Chars → ℕ → Step
  fault : GlobFault → Step
  ended : Step

-- what a `[` begins that is followed by this text, at this depth in braces
pub data Bracket (o : Options) (depth : ℕ) (text : Chars) : Step → Type 0 where
  -- a closed class, with its ranges in order
  whole : (body rest : Chars) (items : List (ℕ × Chars)) → Closes (after_sign text) body rest → Items body items
      → are_in_order items ≡ true → Bracket o depth text (lexeme (class (is_negated text) (ranges items)) rest depth)
  -- a closed class with a range that isn't in order
  disordered : (body rest : Chars) (items : List (ℕ × Chars)) → Closes (after_sign text) body rest → Items body items
      → are_in_order items ≡ false → Bracket o depth text (fault InvalidRange)
  -- a `[` that nothing closes is a character where the option allows it, and else an error
  literal : ((body rest : Chars) → Closes (after_sign text) body rest → ⊥) → o.allow_unclosed_class ≡ true
      → Bracket o depth text (lexeme (char 91) text depth)
  unclosed : ((body rest : Chars) → Closes (after_sign text) body rest → ⊥) → o.allow_unclosed_class ≡ false
      → Bracket o depth text (fault UnclosedClass)

-- what a text begins with, at this depth in braces
pub data Begins (o : Options) : ℕ → Chars → Step → Type 0 where
  ordinary : (d c : ℕ) (rest : Chars) → is_special d c ≡ false → Begins o d (c ∷ rest) (lexeme (char c) rest d)
  -- a backslash escapes the next character; a last backslash is an error
  escape : (d c : ℕ) (rest : Chars) → Begins o d (92 ∷ c ∷ rest) (lexeme (escaped c) rest d)
  dangling : (d : ℕ) → Begins o d (92 ∷ []) (fault DanglingEscape)
  question : (d : ℕ) (rest : Chars) → Begins o d (63 ∷ rest) (lexeme any rest d)
  -- a run of stars is as long as it can be
  stars : (d n : ℕ) (rest : Chars) → NoStarFirst rest → Begins o d (replicate (suc n) 42 ++ rest) (lexeme (run (suc n)) rest d)
  bracket : (d : ℕ) (text : Chars) (step : Step) → Bracket o d text step → Begins o d (91 ∷ text) step
  -- braces nest to 64 levels
  opens : (d : ℕ) (rest : Chars) → d < 64 → Begins o d (123 ∷ rest) (lexeme opening rest (suc d))
  too_deep : (d : ℕ) (rest : Chars) → 64 ≤ d → Begins o d (123 ∷ rest) (fault TooDeep)
  -- inside braces a `,` separates branches and a `}` closes; outside a `}` is an error
  separates : (d : ℕ) (rest : Chars) → Begins o (suc d) (44 ∷ rest) (lexeme comma rest (suc d))
  closes : (d : ℕ) (rest : Chars) → Begins o (suc d) (125 ∷ rest) (lexeme closing rest d)
  unopened : (rest : Chars) → Begins o 0 (125 ∷ rest) (fault UnopenedAlternates)
  -- the text ends inside braces, or outside
  left_open : (d : ℕ) → Begins o (suc d) [] (fault UnclosedAlternates)
  end : Begins o 0 [] ended

-- a lexeme before the others; an error stays
abbrev pub put_first : Lexeme → Result (List Lexeme) GlobFault → Result (List Lexeme) GlobFault
put_first l (Ok row) = Ok (l ∷ row)
put_first l (Err f) = Err f

-- The text, from this depth in braces on, lexes to this row of lexemes, or to its leftmost error.
-- So unclosed braces are reported only where nothing else is wrong: `{a\` has a dangling escape.
pub data Lexed (o : Options) : ℕ → Chars → Result (List Lexeme) GlobFault → Type 0 where
  ends : (d : ℕ) (text : Chars) → Begins o d text ended → Lexed o d text (Ok [])
  stops : (d : ℕ) (text : Chars) (f : GlobFault) → Begins o d text (fault f) → Lexed o d text (Err f)
  continues : (d e : ℕ) (text rest : Chars) (l : Lexeme) (out : Result (List Lexeme) GlobFault) → Begins o d text (lexeme l rest e)
      → Lexed o e rest out → Lexed o d text (put_first l out)
