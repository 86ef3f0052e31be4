-- The nodes of tokens: a list in which each position is a number, with what stands there and where
-- it leads. Marks in their plain form, on the tokens themselves, stand in Positions.
use Rattle.std.specs.Prelude.{◌≡◌, ◌≢◌, ◌+◌, ◌⊎◌, ℕ, zero, suc, Bool, List, [], ◌∷◌, length, Some, slice_get, Contains}
use Rattle.ignore_base.specs.Text.{Chars}
use Rattle.ignore_glob.specs.Glob.{Token, literal, any, star, start, middle, end, class, alternates, Tokens, done, then, Branches}
use Rattle.ignore_glob.specs.Glob.{no_branch, branch}
use Rattle.ignore_glob.specs.Matches.{slash, IsCaseOf, IsMember}

-- what stands at a position, with the position that comes next
pub data Node : Type 0 where
  literal_at : ℕ → ℕ → Node
  any_at : ℕ → Node
  star_at : ℕ → Node
  -- the inside of these three is the position after their own
  start_at : ℕ → Node
  middle_at : ℕ → Node
  end_at : ℕ → Node
  -- inside a start or a middle; inside an end, or inside a start that is the whole glob
  until_slash : ℕ → Node
  until_end : ℕ → Node
  class_at : Bool → List (ℕ × ℕ) → ℕ → Node
  -- the first position of each branch
  fork_at : List ℕ → Node

-- a step by no character leads from the node at p to q
abbrev pub StepsByNothing : Node → ℕ → ℕ → Type 0
StepsByNothing (literal_at k next) p q = ⊥
StepsByNothing (any_at next) p q = ⊥
StepsByNothing (star_at next) p q = q ≡ next
StepsByNothing (start_at next) p q = (q ≡ p + 1) ⊎ (q ≡ next)
StepsByNothing (middle_at next) p q = ⊥
StepsByNothing (end_at next) p q = ⊥
StepsByNothing (until_slash next) p q = ⊥
StepsByNothing (until_end next) p q = q ≡ next
StepsByNothing (class_at negated ranges next) p q = ⊥
StepsByNothing (fork_at firsts) p q = Contains firsts q

-- a step by the character c leads from the node at p to q; the first argument says whether ASCII
-- case is folded
abbrev pub StepsBy : Bool → Node → ℕ → ℕ → ℕ → Type 0
StepsBy fold (literal_at k next) c p q = IsCaseOf fold k c × (q ≡ next)
StepsBy fold (any_at next) c p q = (c ≢ slash) × (q ≡ next)
StepsBy fold (star_at next) c p q = (c ≢ slash) × (q ≡ p)
StepsBy fold (start_at next) c p q = ⊥
StepsBy fold (middle_at next) c p q = (c ≡ slash) × ((q ≡ p + 1) ⊎ (q ≡ next))
StepsBy fold (end_at next) c p q = (c ≡ slash) × (q ≡ p + 1)
StepsBy fold (until_slash next) c p q = (q ≡ p) ⊎ ((c ≡ slash) × (q ≡ next))
StepsBy fold (until_end next) c p q = q ≡ p
StepsBy fold (class_at negated ranges next) c p q = IsMember fold negated ranges c × (q ≡ next)
StepsBy fold (fork_at firsts) c p q = ⊥

-- how many positions a token, tokens and branches have
abbrev mutual
  pub token_width : Token → ℕ
  token_width (literal c) = 1
  token_width any = 1
  token_width star = 1
  token_width start = 2
  token_width middle = 2
  token_width end = 2
  token_width (class negated ranges) = 1
  token_width (alternates bs) = 1 + branches_width bs

  pub width : Tokens → ℕ
  width done = 0
  width (then t ts) = token_width t + width ts

  pub branches_width : Branches → ℕ
  branches_width no_branch = 0
  branches_width (branch ts bs) = width ts + branches_width bs

-- the first position of tokens that stand at b, before the position e
abbrev pub entry : Tokens → ℕ → ℕ → ℕ
entry done b e = e
entry (then t ts) b e = b

-- the first position of each branch, where the first branch stands at b
abbrev pub entries : Branches → ℕ → ℕ → List ℕ
entries no_branch b e = []
entries (branch ts bs) b e = entry ts b e ∷ entries bs (b + width ts) e

-- without a branch the braces lead to what is next
abbrev pub fork : Branches → ℕ → ℕ → List ℕ
fork no_branch b e = e ∷ []
fork (branch ts bs) b e = entries (branch ts bs) b e

-- the nodes of a token, of tokens and of branches stand at b, and e is next after them
abbrev mutual
  pub TokenAt : List Node → Token → ℕ → ℕ → Type 0
  TokenAt nodes (literal c) b e = slice_get nodes b ≡ Some (literal_at c e)
  TokenAt nodes any b e = slice_get nodes b ≡ Some (any_at e)
  TokenAt nodes star b e = slice_get nodes b ≡ Some (star_at e)
  TokenAt nodes start b e = (slice_get nodes b ≡ Some (start_at e)) × (slice_get nodes (b + 1) ≡ Some (until_slash e))
  TokenAt nodes middle b e = (slice_get nodes b ≡ Some (middle_at e)) × (slice_get nodes (b + 1) ≡ Some (until_slash e))
  TokenAt nodes end b e = (slice_get nodes b ≡ Some (end_at e)) × (slice_get nodes (b + 1) ≡ Some (until_end e))
  TokenAt nodes (class negated ranges) b e = slice_get nodes b ≡ Some (class_at negated ranges e)
  TokenAt nodes (alternates bs) b e = (slice_get nodes b ≡ Some (fork_at (fork bs (b + 1) e))) × BranchesAt nodes bs (b + 1) e

  pub TokensAt : List Node → Tokens → ℕ → ℕ → Type 0
  TokensAt nodes done b e = Unit {0}
  TokensAt nodes (then t ts) b e = TokenAt nodes t b (entry ts (b + token_width t) e) × TokensAt nodes ts (b + token_width t) e

  pub BranchesAt : List Node → Branches → ℕ → ℕ → Type 0
  BranchesAt nodes no_branch b e = Unit {0}
  BranchesAt nodes (branch ts bs) b e = TokensAt nodes ts b e × BranchesAt nodes bs (b + width ts) e

-- the nodes are those of the tokens; the end is their number
abbrev pub AreNodes : List Node → Tokens → Type 0
AreNodes nodes ts = TokensAt nodes ts 0 (length nodes) × (length nodes ≡ width ts)

-- The nodes are those of the whole glob: where it is one recursive start, its inside leads to the
-- end by nothing.
abbrev pub AreGlobNodes : List Node → Tokens → Type 0
AreGlobNodes nodes ts = ((ts ≡ then start done) × (nodes ≡ start_at 2 ∷ until_end 2 ∷ [])) ⊎ ((ts ≢ then start done) × AreNodes nodes ts)

-- The least set that has these positions and is closed under the steps by no character.
pub data Reached (nodes : List Node) (from : ℕ → Type 0) : ℕ → Type 0 where
  here : (q : ℕ) → from q → Reached nodes from q
  on : (p q : ℕ) (node : Node) → Reached nodes from p → slice_get nodes p ≡ Some node → StepsByNothing node p q → Reached nodes from q

-- a step by the character leads from one of these positions to q
abbrev pub SteppedTo : Bool → List Node → (ℕ → Type 0) → ℕ → ℕ → Type 0
SteppedTo fold nodes from c q = (p : ℕ) × (node : Node) × from p × (slice_get nodes p ≡ Some node) × StepsBy fold node c p q

-- The position is marked at this offset of the text, offset by offset from the first position at 0.
abbrev pub Marked : Bool → List Node → Chars → ℕ → ℕ → Type 0
Marked fold nodes text zero = Reached nodes (λ q. q ≡ 0)
Marked fold nodes text (suc o) =
    Reached nodes (λ q. (c : ℕ) × (slice_get text o ≡ Some c) × SteppedTo fold nodes (Marked fold nodes text o) c q)
