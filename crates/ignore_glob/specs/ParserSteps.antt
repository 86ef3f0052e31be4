-- Steps: what inner functions of the parser promise to one another.
use Rattle.std.specs.Prelude.{◌≡◌, ◌≤◌, ℕ, zero, suc, List, [], ◌∷◌, ◌++◌, length, Vec}
use Rattle.std.specs.declared.alloc.Global.{Global}
use Rattle.ignore_base.specs.Text.{Chars}
use Rattle.ignore_glob.specs.Lexing.{Lexeme, opening, comma, closing}
use Rattle.ignore_glob.specs.Glob.{Tokens, then, Branches, branch}
use Rattle.ignore_glob.specs.View.{view, tokens_view}
use Rattle.ignore_glob.specs.declared.glob.token.Token.{Token as CodeToken}

-- the row closes so many braces more than it opens, and its commas are inside braces
abbrev pub Balanced : List Lexeme → ℕ → Type 0
Balanced [] zero = Unit {0}
Balanced [] (suc d) = ⊥
Balanced (opening ∷ ls) d = Balanced ls (suc d)
Balanced (closing ∷ ls) zero = ⊥
Balanced (closing ∷ ls) (suc d) = Balanced ls d
Balanced (comma ∷ ls) zero = ⊥
Balanced (comma ∷ ls) (suc d) = Balanced ls (suc d)
Balanced (l ∷ ls) d = Balanced ls d

-- the program's tokens before these
abbrev pub put_tokens : List CodeToken → Tokens → Tokens
put_tokens [] us = us
put_tokens (t ∷ ts) us = then (view t) (put_tokens ts us)

-- the program's branches before these
abbrev pub put_branches : List (Vec CodeToken Global) → Branches → Branches
put_branches [] cs = cs
put_branches (b ∷ bs) cs = branch (tokens_view b.items) (put_branches bs cs)

-- at least n characters follow each `]` of the text
abbrev pub ClosesBefore : ℕ → Chars → Type 0
ClosesBefore n text = (m r : Chars) → text ≡ m ++ 93 ∷ r → n ≤ length r
