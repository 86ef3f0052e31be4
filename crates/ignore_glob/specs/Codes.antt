-- Codes: tokens as trees of numbers, and readings as pairs, by which proofs distinguish them.
use Rattle.std.specs.Prelude.{◌≡◌, ℕ, zero, suc, Bool, true, false, List, [], ◌∷◌, refl}
use Rattle.std.specs.Coded.{Coded, code_by, coded×, coded_bool}
use base.Stored.{Gv, gnil, gnum, gcons}
use denote.Struct.Codes.{itself}
use Rattle.ignore_glob.specs.Glob.{Token, literal, any, star, start, middle, end, class, alternates, Tokens, done, then, Branches}
use Rattle.ignore_glob.specs.Glob.{no_branch, branch}
use Rattle.ignore_glob.specs.Reading.{Reading}

-- the tree of ranges
abbrev pub ranges_tree : List (ℕ × ℕ) → Gv
ranges_tree [] = gnil
ranges_tree (r ∷ rs) = gcons (gcons (gnum r.0) (gnum r.1)) (ranges_tree rs)

-- the tree of a class
abbrev pub class_tree : Bool → Gv → Gv
class_tree false ranges = gcons (gnum 0) ranges
class_tree true ranges = gcons (gnum 1) ranges

-- the trees of a token, of tokens and of branches
abbrev mutual
  pub token_tree : Token → Gv
  token_tree any = gnum 0
  token_tree star = gnum 1
  token_tree start = gnum 2
  token_tree middle = gnum 3
  token_tree end = gnum 4
  token_tree (literal c) = gcons gnil (gnum c)
  token_tree (class negated ranges) = class_tree negated (ranges_tree ranges)
  token_tree (alternates bs) = gcons (gcons gnil gnil) (branches_tree bs)

  pub tokens_tree : Tokens → Gv
  tokens_tree done = gnil
  tokens_tree (then t ts) = gcons (token_tree t) (tokens_tree ts)

  pub branches_tree : Branches → Gv
  branches_tree no_branch = gnil
  branches_tree (branch ts bs) = gcons (tokens_tree ts) (branches_tree bs)

-- the number of a tree; a tree of another form has any value
abbrev pub number : Gv → ℕ
number gnil = 0
number (gnum n) = n
number (gcons a b) = 0

-- the range of a tree
abbrev pub range : Gv → ℕ × ℕ
range gnil = (0, 0)
range (gnum n) = (0, 0)
range (gcons a b) = (number a, number b)

-- the ranges of a tree
abbrev pub ranges_from : Gv → List (ℕ × ℕ)
ranges_from gnil = []
ranges_from (gnum n) = []
ranges_from (gcons r rs) = range r ∷ ranges_from rs

-- the token without contents with a number
abbrev pub bare : ℕ → Token
bare zero = any
bare (suc zero) = star
bare (suc (suc zero)) = start
bare (suc (suc (suc zero))) = middle
bare (suc (suc (suc (suc n)))) = end

-- the class of a tree
abbrev pub class_from : ℕ → List (ℕ × ℕ) → Token
class_from zero ranges = class false ranges
class_from (suc n) ranges = class true ranges

-- the token, the tokens and the branches of a tree
abbrev mutual
  pub token_from : Gv → Token
  token_from gnil = any
  token_from (gnum n) = bare n
  token_from (gcons gnil b) = literal (number b)
  token_from (gcons (gnum n) b) = class_from n (ranges_from b)
  token_from (gcons (gcons a c) b) = alternates (branches_from b)

  pub tokens_from : Gv → Tokens
  tokens_from gnil = done
  tokens_from (gnum n) = done
  tokens_from (gcons t ts) = then (token_from t) (tokens_from ts)

  pub branches_from : Gv → Branches
  branches_from gnil = no_branch
  branches_from (gnum n) = no_branch
  branches_from (gcons ts bs) = branch (tokens_from ts) (branches_from bs)

-- ranges come back from their tree
pub ranges_back : (rs : List (ℕ × ℕ)) → ranges_from (ranges_tree rs) ≡ rs
ranges_back [] = refl
ranges_back (r ∷ rs) = λ i. r ∷ ranges_back rs i

-- a class comes back from its tree
pub class_back : (negated : Bool) (ranges : List (ℕ × ℕ)) → token_from (class_tree negated (ranges_tree ranges)) ≡ class negated ranges
class_back false ranges = λ i. class false (ranges_back ranges i)
class_back true ranges = λ i. class true (ranges_back ranges i)

-- a token, tokens and branches come back from their trees
mutual
  pub token_back : (t : Token) → token_from (token_tree t) ≡ t
  token_back any = refl
  token_back star = refl
  token_back start = refl
  token_back middle = refl
  token_back end = refl
  token_back (literal c) = refl
  token_back (class negated ranges) = class_back negated ranges
  token_back (alternates bs) = λ i. alternates (branches_back bs i)

  pub tokens_back : (ts : Tokens) → tokens_from (tokens_tree ts) ≡ ts
  tokens_back done = refl
  tokens_back (then t ts) = λ i. then (token_back t i) (tokens_back ts i)

  pub branches_back : (bs : Branches) → branches_from (branches_tree bs) ≡ bs
  branches_back no_branch = refl
  branches_back (branch ts bs) = λ i. branch (tokens_back ts i) (branches_back bs i)

-- the code of tokens
abbrev pub tokens_code : Coded Tokens
tokens_code = code_by Gv itself tokens_tree tokens_from tokens_back

-- code: proofs distinguish readings by the pair of their fields
abbrev pub reading_code : Coded Reading
reading_code =
    code_by (Tokens × Bool) (coded× tokens_code coded_bool) (λ r. (r.tokens, r.case_insensitive))
    (λ p. record { tokens = p.0; case_insensitive = p.1 }) (λ _. refl)
