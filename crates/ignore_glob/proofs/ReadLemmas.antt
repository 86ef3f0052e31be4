-- Tokens and branches that grow, and levels of braces that go on.
use Rattle.std.proofs.Common.{Ok, ◌≡◌, ◌<◌, ℕ, zero, suc, List, [], ◌∷◌, ◌++◌, length, Vec, Global, refl, sym, subst, ap, arith}
use Rattle.ignore_glob.specs.Glob.{Token, Tokens, done, then, Branches, no_branch, branch}
use Rattle.ignore_glob.specs.Lexing.{Lexeme, comma, closing, Lexed}
use Rattle.ignore_glob.specs.Row.{Left, branch_start, glob_start, times, add_branch, Ends, Row, Reads, Inner, last_branch, further_branch}
use Rattle.ignore_glob.specs.View.{view, tokens_view, branches_view}
use Rattle.ignore_glob.specs.ParserSteps.{Balanced, put_tokens, put_branches}
use Rattle.ignore_glob.specs.declared.glob.options.Options.{Options}
use Rattle.ignore_glob.proofs.RowExists.{Lexed-balanced, ends_glob}
use Rattle.ignore_glob.specs.declared.glob.token.Token.{Token as CodeToken}

pub put_tokens-push : (ts : List CodeToken) (t : CodeToken) (us : Tokens) → put_tokens (ts ++ t ∷ []) us ≡ put_tokens ts (then (view t) us)
put_tokens-push [] t us = refl
put_tokens-push (s ∷ ts) t us = ap (λ x. then (view s) x) (put_tokens-push ts t us)

pub put_tokens-done : (ts : List CodeToken) → put_tokens ts done ≡ tokens_view ts
put_tokens-done [] = refl
put_tokens-done (t ∷ ts) = ap (λ x. then (view t) x) (put_tokens-done ts)

pub times-more : (n : ℕ) (t : Token) (ts : Tokens) → times n t (then t ts) ≡ times (suc n) t ts
times-more zero t ts = refl
times-more (suc n) t ts = ap (λ x. then t x) (times-more n t ts)

pub put_branches-push : (bs : List (Vec CodeToken Global)) (b : Vec CodeToken Global) (cs : Branches)
    → put_branches (bs ++ b ∷ []) cs ≡ put_branches bs (branch (tokens_view b.items) cs)
put_branches-push [] b cs = refl
put_branches-push (a ∷ bs) b cs = ap (λ x. branch (tokens_view a.items) x) (put_branches-push bs b cs)

pub put_branches-none : (bs : List (Vec CodeToken Global)) → put_branches bs no_branch ≡ branches_view bs
put_branches-none [] = refl
put_branches-none (b ∷ bs) = ap (λ x. branch (tokens_view b.items) x) (put_branches-none bs)

-- a branch with tokens is kept, one without is dropped
pub add_some : (ts : List CodeToken) (bs : Branches) → 0 < length ts → branch (tokens_view ts) bs ≡ add_branch (tokens_view ts) bs
add_some [] bs h = absurd (omega arith)
add_some (t ∷ ts) bs h = refl

-- the row of a level, at tokens that are known by an equation
pub Row-at : (p : Left) (ls rest : List Lexeme) (ts us : Tokens) → ts ≡ us → Row p ls ts rest → Row p ls us rest
Row-at p ls rest ts us e r = let P : Tokens → Type 0 = λ x. Row p ls x rest in subst P e r

pub Inner-at : (ls rest : List Lexeme) (bs cs : Branches) → bs ≡ cs → Inner ls bs rest → Inner ls cs rest
Inner-at ls rest bs cs e i = let P : Branches → Type 0 = λ x. Inner ls x rest in subst P e i

pub last_at : (ls after rest : List Lexeme) (ts : Tokens) → after ≡ closing ∷ rest → Row branch_start ls ts after
    → Inner ls (add_branch ts no_branch) rest
last_at ls after rest ts e r = let P : List Lexeme → Type 0 = λ x. Row branch_start ls ts x in last_branch ls rest ts (subst P e r)

pub further_at : (ls after mid rest : List Lexeme) (ts : Tokens) (bs : Branches) → after ≡ comma ∷ mid → Row branch_start ls ts after
    → Inner mid bs rest → Inner ls (add_branch ts bs) rest
further_at ls after mid rest ts bs e r i =
    let P : List Lexeme → Type 0 = λ x. Row branch_start ls ts x in further_branch ls mid rest ts bs (subst P e r) i

-- a text and its row, as slices of the program
module _ (o : Options) (text slice : List ℕ) (slice_is : slice ≡ text) (found lexemes : List Lexeme) (lexemes_are : lexemes ≡ found)
    (written : Lexed o 0 slice (Ok found)) where
  pub balanced_at : Balanced lexemes 0
  balanced_at = let B : List Lexeme → Type 0 = λ x. Balanced x 0 in subst B (sym lexemes_are) (Lexed-balanced o 0 slice (Ok found) written)

  pub reads_at : (ts : Tokens) (rest : List Lexeme) → Row glob_start lexemes ts rest → Ends rest
      → ((d : ℕ) → Balanced lexemes d → Balanced rest d) → Reads o text ts
  reads_at ts rest r e b =
      let P : List Lexeme → Type 0 = λ x. Row glob_start x ts [] in let W : List ℕ → Type 0 = λ x. Lexed o 0 x (Ok found) in
      (found, subst W slice_is written, subst P lexemes_are (ends_glob glob_start lexemes rest ts r e (b 0 balanced_at)))
