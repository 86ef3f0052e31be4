-- Patterns of literals, alone or after `**/` or `**/*`, by the text of the literals.
use Rattle.std.specs.Prelude.{ℕ, ◌+◌, Bool, false, true, List, [], ◌∷◌, length, cond, nat_eq}
use Rattle.std.specs.Str.{chars}
use Rattle.ignore_base.specs.Text.{Bytes, Chars}
use Rattle.ignore_glob.specs.Glob.{Token, literal, star, start, Tokens, done, then}
use Rattle.ignore_glob.specs.Nodes.{Node, start_at, star_at, until_slash}
use Rattle.ignore_glob.specs.Reading.{Reading}
use Rattle.ignore_glob.specs.declared.glob.kind.Kind.{Kind}
use Rattle.ignore_glob.specs.declared.glob.kind.Kind.TheVariants.{Whole, Name, End}

-- the literals of these characters
abbrev pub literals_of : Chars → Tokens
literals_of [] = done
literals_of (c ∷ cs) = then (literal c) (literals_of cs)

-- literals alone; after a recursive start; after a recursive start and a star
abbrev pub kind_tokens : Kind → Chars → Tokens
kind_tokens Whole cs = literals_of cs
kind_tokens Name cs = then start (literals_of cs)
kind_tokens End cs = then start (then star (literals_of cs))

-- the pattern of a kind with the literals of a text; case isn't folded
abbrev pub exact_reading : Kind → Bytes → Reading
exact_reading kind text = record { tokens = kind_tokens kind (chars text); case_insensitive = false }

-- the tokens before the literals
abbrev pub front_tokens : Kind → List Token
front_tokens Whole = []
front_tokens Name = start ∷ []
front_tokens End = start ∷ star ∷ []

-- the nodes before the literals
abbrev pub front_nodes : Kind → List Node
front_nodes Whole = []
front_nodes Name = start_at 2 ∷ until_slash 2 ∷ []
front_nodes End = start_at 2 ∷ until_slash 2 ∷ star_at 3 ∷ []

-- how many characters two texts begin with alike
abbrev pub common : Chars → Chars → ℕ
common [] ds = 0
common (c ∷ cs) [] = 0
common (c ∷ cs) (d ∷ ds) = cond (nat_eq c d) (1 + common cs ds) 0

-- the literals may begin after this character
abbrev pub may_begin : Kind → ℕ → Bool
may_begin Whole d = false
may_begin Name d = nat_eq d 47
may_begin End d = true

-- how many marks the positions before the literals have: the first at the start of the text, and
-- its inside and the star at each offset
abbrev pub front_marks : Kind → Chars → ℕ
front_marks Whole text = 0
front_marks Name text = 1 + (length text + 1)
front_marks End text = 1 + ((length text + 1) + (length text + 1))

-- how many marks literals have that begin after a character of the text
abbrev pub later_marks : Kind → Chars → Chars → ℕ
later_marks kind cs [] = 0
later_marks kind cs (d ∷ text) = cond (may_begin kind d) (1 + common cs text) 0 + later_marks kind cs text

-- how many marks there are
abbrev pub exact_marks : Kind → Chars → Chars → ℕ
exact_marks kind cs text = front_marks kind text + (1 + common cs text + later_marks kind cs text)
