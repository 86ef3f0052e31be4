-- Positions of a glob, the steps between them, and the marks that a text leaves: the states,
-- transitions and reachable sets of its automaton, on the tokens themselves.
use Rattle.std.specs.Prelude.{◌≡◌, ◌≢◌, ◌↔◌, ℕ, suc, Bool, List, [], ◌∷◌, ◌++◌, length, Some, slice_get, Contains}
use Rattle.ignore_base.specs.Text.{Chars}
use Rattle.ignore_glob.specs.Glob.{Token, literal, any, star, start, middle, end, class, alternates, Tokens, done, then, Branches}
use Rattle.ignore_glob.specs.Glob.{no_branch, branch}
use Rattle.ignore_glob.specs.Matches.{slash, IsCaseOf, IsMember}

-- the place of a token: the first; the one after a place; the first in a numbered branch of the
-- braces at a place
pub data Place : Type 0 where
  first : Place
  after : Place → Place
  in_branch : ℕ → Place → Place

-- before the token at a place, inside the recursive token at a place, or the end of the glob
pub data Position : Type 0 where
  before : Place → Position
  inside : Place → Position
  the_end : Position

-- the position before the first of some tokens, which begin at p; where there are none, what is
-- next after them
abbrev pub entrance : Tokens → Place → Position → Position
entrance done p next = next
entrance (then t ts) p next = before p

-- the positions before the branches of the braces at p, from the branch of number i on
abbrev pub entrances : Branches → ℕ → Place → Position → List Position
entrances no_branch i p next = []
entrances (branch ts bs) i p next = entrance ts (in_branch i p) next ∷ entrances bs (suc i) p next

-- a position, the token that it is before or inside, and the position that is next after that token
abbrev pub Entry : Type 0
Entry = Position × Token × Position

-- Each position but the end, in the order of writing: one for each token, inside branches too, and
-- a second, its inside, for each recursive one. Next after a branch is what is next after its
-- braces.
abbrev mutual
  pub table : Tokens → Place → Position → List Entry
  table done p next = []
  table (then t ts) p next = token_table t p (entrance ts (after p) next) ++ table ts (after p) next

  pub token_table : Token → Place → Position → List Entry
  token_table (literal c) p next = (before p, literal c, next) ∷ []
  token_table any p next = (before p, any, next) ∷ []
  token_table star p next = (before p, star, next) ∷ []
  token_table start p next = (before p, start, next) ∷ (inside p, start, next) ∷ []
  token_table middle p next = (before p, middle, next) ∷ (inside p, middle, next) ∷ []
  token_table end p next = (before p, end, next) ∷ (inside p, end, next) ∷ []
  token_table (class negated ranges) p next = (before p, class negated ranges, next) ∷ []
  token_table (alternates bs) p next = (before p, alternates bs, next) ∷ branch_table bs 0 p next

  pub branch_table : Branches → ℕ → Place → Position → List Entry
  branch_table no_branch i p next = []
  branch_table (branch ts bs) i p next = table ts (in_branch i p) next ++ branch_table bs (suc i) p next

-- how many positions there are but the end: of a**/b there are 4, of {a,{b,}}c there are 5
abbrev pub positions : Tokens → ℕ
positions ts = length (table ts first the_end)

-- the position is before or inside this token, and this one is next after the token
abbrev pub Stands : Tokens → Position → Token → Position → Type 0
Stands ts position t next = Contains (table ts first the_end) (position, t, next)

-- A step by no character. The inside of a recursive start leads on so where the whole glob is that
-- start.
pub data EmptyStep (ts : Tokens) : Position → Position → Type 0 where
  past_star : (p : Place) (next : Position) → Stands ts (before p) star next → EmptyStep ts (before p) next
  into_start : (p : Place) (next : Position) → Stands ts (before p) start next → EmptyStep ts (before p) (inside p)
  past_start : (p : Place) (next : Position) → Stands ts (before p) start next → EmptyStep ts (before p) next
  past_end : (p : Place) (next : Position) → Stands ts (inside p) end next → EmptyStep ts (inside p) next
  past_lone_start : ts ≡ then start done → EmptyStep ts (inside first) the_end
  into_branch : (p : Place) (bs : Branches) (next q : Position) → Stands ts (before p) (alternates bs) next →
      Contains (entrances bs 0 p next) q → EmptyStep ts (before p) q
  past_braces : (p : Place) (next : Position) → Stands ts (before p) (alternates no_branch) next → EmptyStep ts (before p) next

-- A step by the character c, with ASCII case folded or not.
pub data CharacterStep (fold : Bool) (ts : Tokens) (c : ℕ) : Position → Position → Type 0 where
  by_literal : (p : Place) (d : ℕ) (next : Position) → Stands ts (before p) (literal d) next → IsCaseOf fold d c →
      CharacterStep fold ts c (before p) next
  by_any : (p : Place) (next : Position) → Stands ts (before p) any next → c ≢ slash → CharacterStep fold ts c (before p) next
  by_class : (p : Place) (negated : Bool) (ranges : List (ℕ × ℕ)) (next : Position) →
      Stands ts (before p) (class negated ranges) next → IsMember fold negated ranges c → CharacterStep fold ts c (before p) next
  -- a star stays by all but a slash, and an inside by each character
  at_star : (p : Place) (next : Position) → Stands ts (before p) star next → c ≢ slash → CharacterStep fold ts c (before p) (before p)
  stays : (p : Place) (t : Token) (next : Position) → Stands ts (inside p) t next → CharacterStep fold ts c (inside p) (inside p)
  -- a slash leads out of a start or a middle, past a whole middle, and into a middle or an end
  out_of_start : (p : Place) (next : Position) → Stands ts (inside p) start next → c ≡ slash → CharacterStep fold ts c (inside p) next
  out_of_middle : (p : Place) (next : Position) → Stands ts (inside p) middle next → c ≡ slash → CharacterStep fold ts c (inside p) next
  past_middle : (p : Place) (next : Position) → Stands ts (before p) middle next → c ≡ slash → CharacterStep fold ts c (before p) next
  into_middle : (p : Place) (next : Position) → Stands ts (before p) middle next → c ≡ slash →
      CharacterStep fold ts c (before p) (inside p)
  into_end : (p : Place) (next : Position) → Stands ts (before p) end next → c ≡ slash → CharacterStep fold ts c (before p) (inside p)

-- The marks of a text: the least set of pairs of a position and an offset in characters that has
-- the first position at offset 0 and is closed under the steps, those by no character and those by
-- the character at the offset.
pub data IsMarked (fold : Bool) (ts : Tokens) (text : Chars) : Position → ℕ → Type 0 where
  begins : IsMarked fold ts text (entrance ts first the_end) 0
  by_nothing : (p q : Position) (o : ℕ) → IsMarked fold ts text p o → EmptyStep ts p q → IsMarked fold ts text q o
  by_character : (p q : Position) (o c : ℕ) → IsMarked fold ts text p o → slice_get text o ≡ Some c →
      CharacterStep fold ts c p q → IsMarked fold ts text q (suc o)

-- no element of the list stands in it twice
abbrev pub HasNoDuplicates : {X : Type 0} → List X → Type 0
HasNoDuplicates [] = Unit {0}
HasNoDuplicates (x ∷ xs) = (Contains xs x → ⊥) × HasNoDuplicates xs

-- n is the number of marks: the length of a list that has each of them, nothing else, and nothing
-- twice
pub record CountsMarks (fold : Bool) (ts : Tokens) (text : Chars) (n : ℕ) : Type 0 where
  pub marks : List (Position × ℕ)
  pub each : (p : Position) (o : ℕ) → Contains marks (p, o) ↔ IsMarked fold ts text p o
  pub once : HasNoDuplicates marks
  pub number : length marks ≡ n
