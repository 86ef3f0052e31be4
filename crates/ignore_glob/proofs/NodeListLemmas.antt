-- The list of a glob's nodes: how long it is, where its nodes stand, and that they lead on.
use Rattle.std.proofs.Common.{◌≡◌, ◌+◌, ◌++◌, ◌∷◌, [], inl, inr, ℕ, List, length, arith, slice_get, Some, refl, sym, ◌∙◌, ap, append_assoc}
use Rattle.std.proofs.Common.{length-append}
use Rattle.std.proofs.lemmas.List.{append-nil}
use Rattle.ignore_glob.specs.Glob.{Token, literal, any, star, start, middle, end, class, alternates, Tokens, done, then, Branches}
use Rattle.ignore_glob.specs.Glob.{no_branch, branch}
use Rattle.ignore_glob.specs.Nodes.{Node, fork_at, token_width, width, branches_width, entry, fork, TokenAt, TokensAt, BranchesAt, AreNodes}
use Rattle.ignore_glob.specs.Nodes.{AreGlobNodes}
use Rattle.ignore_glob.specs.NodeLists.{token_nodes, tokens_nodes, branches_nodes, glob_nodes}

mutual
  pub token_nodes-length : (t : Token) (b e : ℕ) → length (token_nodes t b e) ≡ token_width t
  token_nodes-length (literal c) b e = refl
  token_nodes-length any b e = refl
  token_nodes-length star b e = refl
  token_nodes-length start b e = refl
  token_nodes-length middle b e = refl
  token_nodes-length end b e = refl
  token_nodes-length (class negated ranges) b e = refl
  token_nodes-length (alternates bs) b e = omega (arith, branches_nodes-length bs (b + 1) e)

  pub tokens_nodes-length : (ts : Tokens) (b e : ℕ) → length (tokens_nodes ts b e) ≡ width ts
  tokens_nodes-length done b e = refl
  tokens_nodes-length (then t ts) b e =
      let next = entry ts (b + token_width t) e in
      length-append (token_nodes t b next) (tokens_nodes ts (b + token_width t) e)
      ∙ omega (arith, token_nodes-length t b next, tokens_nodes-length ts (b + token_width t) e)

  pub branches_nodes-length : (bs : Branches) (b e : ℕ) → length (branches_nodes bs b e) ≡ branches_width bs
  branches_nodes-length no_branch b e = refl
  branches_nodes-length (branch ts bs) b e =
      length-append (tokens_nodes ts b e) (branches_nodes bs (b + width ts) e)
      ∙ omega (arith, tokens_nodes-length ts b e, branches_nodes-length bs (b + width ts) e)

-- a token more stands, and a branch more
pub token_put : (old new : List Node) (t : Token) (ts : Tokens) (m n e : ℕ) → new ≡ old ++ token_nodes t n (entry ts (n + token_width t) e)
    → m ≡ n + token_width t → new ++ tokens_nodes ts m e ≡ old ++ tokens_nodes (then t ts) n e
token_put old new t ts m n e p q =
    rw (p, q) (append_assoc old (token_nodes t n (entry ts (n + token_width t) e)) (tokens_nodes ts (n + token_width t) e))

pub branch_put : (old new : List Node) (ts : Tokens) (bs : Branches) (m n e : ℕ) → new ≡ old ++ tokens_nodes ts n e → m ≡ n + width ts
    → new ++ branches_nodes bs m e ≡ old ++ branches_nodes (branch ts bs) n e
branch_put old new ts bs m n e p q = rw (p, q) (append_assoc old (tokens_nodes ts n e) (branches_nodes bs (n + width ts) e))

slice_get-past : (before rest : List Node) (x : Node) → slice_get (before ++ x ∷ rest) (length before) ≡ Some x
slice_get-past [] rest x = refl
slice_get-past (y ∷ before) rest x = slice_get-past before rest x

at_place : (nodes before rest : List Node) (x : Node) (b : ℕ) → nodes ≡ before ++ x ∷ rest → b ≡ length before → slice_get nodes b ≡ Some x
at_place nodes before rest x b e h = rw (e, h) (slice_get-past before rest x)

next_place : (nodes before rest : List Node) (x y : Node) (b : ℕ) → nodes ≡ before ++ x ∷ y ∷ rest → b ≡ length before
    → slice_get nodes (b + 1) ≡ Some y
next_place nodes before rest x y b e h =
    at_place nodes (before ++ x ∷ []) rest y (b + 1) (e ∙ sym (append_assoc before (x ∷ []) (y ∷ rest)))
    (omega (arith, h, length-append before (x ∷ [])))

mutual
  token_at : (t : Token) (nodes before rest : List Node) (b e : ℕ) → nodes ≡ before ++ (token_nodes t b e ++ rest) → b ≡ length before
      → TokenAt nodes t b e
  token_at (literal c) nodes before rest b e p h = at_place nodes before rest _ b p h
  token_at any nodes before rest b e p h = at_place nodes before rest _ b p h
  token_at star nodes before rest b e p h = at_place nodes before rest _ b p h
  token_at start nodes before rest b e p h = (at_place nodes before _ _ b p h, next_place nodes before rest _ _ b p h)
  token_at middle nodes before rest b e p h = (at_place nodes before _ _ b p h, next_place nodes before rest _ _ b p h)
  token_at end nodes before rest b e p h = (at_place nodes before _ _ b p h, next_place nodes before rest _ _ b p h)
  token_at (class negated ranges) nodes before rest b e p h = at_place nodes before rest _ b p h
  token_at (alternates bs) nodes before rest b e p h =
      let first = fork_at (fork bs (b + 1) e) in (
        at_place nodes before (branches_nodes bs (b + 1) e ++ rest) first b p h,
        branches_at bs nodes (before ++ first ∷ []) rest (b + 1) e
            (p ∙ sym (append_assoc before (first ∷ []) (branches_nodes bs (b + 1) e ++ rest)))
            (omega (arith, h, length-append before (first ∷ []))),
      )

  tokens_at : (ts : Tokens) (nodes before rest : List Node) (b e : ℕ) → nodes ≡ before ++ (tokens_nodes ts b e ++ rest) → b ≡ length before
      → TokensAt nodes ts b e
  tokens_at done nodes before rest b e p h = tt
  tokens_at (then t ts) nodes before rest b e p h =
      let w = token_width t in
      let next = entry ts (b + w) e in
      let here = token_nodes t b next in
      let more = tokens_nodes ts (b + w) e in
      let cut : nodes ≡ before ++ (here ++ (more ++ rest)) = p ∙ ap (λ x. before ++ x) (append_assoc here more rest) in (
        token_at t nodes before (more ++ rest) b next cut h,
        tokens_at ts nodes (before ++ here) rest (b + w) e (cut ∙ sym (append_assoc before here (more ++ rest)))
            (omega (arith, h, length-append before here, token_nodes-length t b next)),
      )

  branches_at : (bs : Branches) (nodes before rest : List Node) (b e : ℕ) → nodes ≡ before ++ (branches_nodes bs b e ++ rest)
      → b ≡ length before → BranchesAt nodes bs b e
  branches_at no_branch nodes before rest b e p h = tt
  branches_at (branch ts bs) nodes before rest b e p h =
      let w = width ts in
      let here = tokens_nodes ts b e in
      let more = branches_nodes bs (b + w) e in
      let cut : nodes ≡ before ++ (here ++ (more ++ rest)) = p ∙ ap (λ x. before ++ x) (append_assoc here more rest) in (
        tokens_at ts nodes before (more ++ rest) b e cut h,
        branches_at bs nodes (before ++ here) rest (b + w) e (cut ∙ sym (append_assoc before here (more ++ rest)))
            (omega (arith, h, length-append before here, tokens_nodes-length ts b e)),
      )

pub tokens_nodes-are : (ts : Tokens) → AreNodes (tokens_nodes ts 0 (width ts)) ts
tokens_nodes-are ts =
    let nodes = tokens_nodes ts 0 (width ts) in
    let n : length nodes ≡ width ts = tokens_nodes-length ts 0 (width ts) in
    (rw n (tokens_at ts nodes [] [] 0 (width ts) (sym (append-nil nodes)) refl), n)

pub glob_nodes-are : (ts : Tokens) → AreGlobNodes (glob_nodes ts) ts
glob_nodes-are done = inr ((λ e. absurd (cc e)), tokens_nodes-are done)
glob_nodes-are (then (literal c) ts) = inr ((λ e. absurd (cc e)), tokens_nodes-are (then (literal c) ts))
glob_nodes-are (then any ts) = inr ((λ e. absurd (cc e)), tokens_nodes-are (then any ts))
glob_nodes-are (then star ts) = inr ((λ e. absurd (cc e)), tokens_nodes-are (then star ts))
glob_nodes-are (then start done) = inl (refl, refl)
glob_nodes-are (then start (then t ts)) = inr ((λ e. absurd (cc e)), tokens_nodes-are (then start (then t ts)))
glob_nodes-are (then middle ts) = inr ((λ e. absurd (cc e)), tokens_nodes-are (then middle ts))
glob_nodes-are (then end ts) = inr ((λ e. absurd (cc e)), tokens_nodes-are (then end ts))
glob_nodes-are (then (class negated ranges) ts) = inr ((λ e. absurd (cc e)), tokens_nodes-are (then (class negated ranges) ts))
glob_nodes-are (then (alternates bs) ts) = inr ((λ e. absurd (cc e)), tokens_nodes-are (then (alternates bs) ts))

-- the nodes of a glob are as many as its positions
pub glob_nodes-length : (ts : Tokens) → length (glob_nodes ts) ≡ width ts
glob_nodes-length ts = are_many (glob_nodes ts) ts (glob_nodes-are ts)
  where
    are_many : (nodes : List Node) (ts : Tokens) → AreGlobNodes nodes ts → length nodes ≡ width ts
    are_many nodes ts (inl lone) = ap length lone.1 ∙ sym (ap width lone.0)
    are_many nodes ts (inr are) = are.1.1
