-- Views: the tokens that the program's tokens stand for.
use Rattle.std.specs.Prelude.{List, [], ◌∷◌, map, Vec}
use Rattle.std.specs.declared.alloc.Global.{Global}
use Rattle.std.specs.Arc.{arc_slice_items}
use Rattle.ignore_glob.specs.Glob.{Token, literal, any, star, start, middle, end, class, alternates, Tokens, done, then, Branches}
use Rattle.ignore_glob.specs.Glob.{no_branch, branch}
use Rattle.ignore_glob.specs.declared.glob.token.Token.{Token as CodeToken, fold-Token}
use Rattle.ignore_glob.specs.declared.glob.token.Token.TheOpen.{Token-F}

-- the tokens of a list
abbrev pub tokens_of : List Token → Tokens
tokens_of [] = done
tokens_of (t ∷ ts) = then t (tokens_of ts)

-- the branches of a list of lists
abbrev pub branches_of : List (Vec Token Global) → Branches
branches_of [] = no_branch
branches_of (b ∷ bs) = branch (tokens_of b.items) (branches_of bs)

-- the view of one token, given the views of the tokens inside
abbrev pub view_step : Token-F Token → Token
view_step (Token-F.Literal c) = literal c
view_step Token-F.Any = any
view_step Token-F.Star = star
view_step Token-F.RecursiveStart = start
view_step Token-F.RecursiveMiddle = middle
view_step Token-F.RecursiveEnd = end
view_step (Token-F.Class class') = class class'.negated (arc_slice_items class'.ranges)
view_step (Token-F.Alternates branches) = alternates (branches_of branches.items)

-- the token that a token of the program stands for
abbrev pub view : CodeToken → Token
view = fold-Token Token view_step

-- the tokens that tokens of the program stand for
abbrev pub tokens_view : List CodeToken → Tokens
tokens_view ts = tokens_of (map view ts)

-- the branches that branches of the program stand for
abbrev pub branches_view : List (Vec CodeToken Global) → Branches
branches_view [] = no_branch
branches_view (b ∷ bs) = branch (tokens_view b.items) (branches_view bs)
