-- A glob has at most as many positions as characters.
use Rattle.std.proofs.Common.{◌≡◌, inl, inr, ◌+◌, ◌*◌, ◌≤◌, ℕ, zero, suc, List, [], ◌∷◌, length, replicate, Ok, Err, Result, refl, ap}
use Rattle.std.proofs.Common.{arith, length-append}
use Rattle.std.proofs.lemmas.List.{length-replicate}
use Rattle.ignore_glob.specs.declared.glob.options.Options.{Options}
use Rattle.ignore_glob.specs.declared.glob.fault.GlobFault.{GlobFault}
use Rattle.ignore_glob.specs.Glob as G
use Rattle.ignore_glob.specs.Glob.{Token, Tokens, done, then, Branches, no_branch, branch}
use Rattle.ignore_glob.specs.Lexing as P
use Rattle.ignore_glob.specs.Lexing.{Lexeme, char, escaped, any, run, class, opening, comma, closing, Step, Begins, put_first, Bracket}
use Rattle.ignore_glob.specs.Lexing.{Lexed}
use Rattle.ignore_glob.specs.Row.{IsSlash, stars_before, Left, Meaning, gives, braces, ended, Means, character, escape, question, bracket, stars}
use Rattle.ignore_glob.specs.Row.{slash, middle, end, start, start_to_end, alone, opens, ends, times, add_branch, Row, nothing, further}
use Rattle.ignore_glob.specs.Row.{nested, Inner, last_branch, further_branch, Reads}
use Rattle.ignore_glob.specs.Nodes.{width, branches_width}
use Rattle.ignore_glob.specs.Positions.{positions}
use Rattle.ignore_glob.proofs.BracketLemmas.{IsRest-shorter, Bracket-rest}
use Rattle.ignore_glob.proofs.Numbering.{positions_width}

-- the most positions that a lexeme stands for, by itself
abbrev weight : Lexeme → ℕ
weight (char c) = 1
weight (escaped c) = 1
weight any = 1
weight (run n) = n
weight (class negated ranges) = 1
weight opening = 1
weight comma = 1
weight closing = 1

abbrev row_weight : List Lexeme → ℕ
row_weight [] = 0
row_weight (l ∷ ls) = weight l + row_weight ls

chain_weight : (n : ℕ) (ls : List Lexeme) → row_weight (stars_before n ls) ≡ 3 * n + row_weight ls
chain_weight zero ls = omega arith
chain_weight (suc n) ls = let e = chain_weight n ls in omega (arith, e)

slash_weight : (l : Lexeme) → IsSlash l → weight l ≡ 1
slash_weight l (inl e) = ap (λ (x : Lexeme). weight x) e
slash_weight l (inr e) = ap (λ (x : Lexeme). weight x) e

stars_width : (n : ℕ) (ts : Tokens) → width (times n G.star ts) ≡ n + width ts
stars_width zero ts = omega arith
stars_width (suc n) ts = let e = stars_width n ts in omega (arith, e)

-- what a meaning gives is no wider than what it consumes of the row
abbrev IsNarrow : List Lexeme → Meaning → Type 0
IsNarrow ls (gives n t mid) = (ts : Tokens) → width (times n t ts) + row_weight mid ≤ row_weight ls + width ts
IsNarrow ls (braces mid) = 1 + row_weight mid ≤ row_weight ls
IsNarrow ls ended = Unit {0}

Means-narrow : (p : Left) (ls : List Lexeme) (m : Meaning) → Means p ls m → IsNarrow ls m
Means-narrow p ls m (character q c rest n) = λ ts. omega arith
Means-narrow p ls m (escape q c rest n) = λ ts. omega arith
Means-narrow p ls m (question q rest) = λ ts. omega arith
Means-narrow p ls m (bracket q negated ranges rest) = λ ts. omega arith
Means-narrow p ls m (stars q n rest r) = λ ts. let e = stars_width n ts in omega (arith, e)
Means-narrow p ls m (slash q l rest s b a) = λ ts. let e = slash_weight l s in omega (arith, e)
Means-narrow p ls m (middle q l n rest s b a) = λ ts. let e = slash_weight l s in let f = chain_weight (suc n) rest in omega (arith, e, f)
Means-narrow p ls m (end q l n rest s k) = λ ts. let e = slash_weight l s in let f = chain_weight n (run 2 ∷ rest) in omega (arith, e, f)
Means-narrow p ls m (start q n rest s b a) = λ ts. let f = chain_weight (suc n) rest in omega (arith, f)
Means-narrow p ls m (start_to_end q n rest s k) = λ ts. let f = chain_weight (suc n) (run 2 ∷ rest) in omega (arith, f)
Means-narrow p ls m alone = λ ts. omega arith
Means-narrow p ls m (opens q rest) = omega arith
Means-narrow p ls m (ends q rest e) = tt

add_width : (ts : Tokens) (bs : Branches) → branches_width (add_branch ts bs) ≡ width ts + branches_width bs
add_width done bs = omega arith
add_width (then t ts) bs = refl

mutual
  row_width : (p : Left) (ls : List Lexeme) (ts : Tokens) (rest : List Lexeme) → Row p ls ts rest
      → width ts + row_weight rest ≤ row_weight ls
  row_width p ls ts rest (nothing q l m) = omega arith
  row_width p ls ts rest (further q l mid r n t us m more) =
      let a = Means-narrow q l (gives n t mid) m us in
      let b = row_width _ mid us r more in
      omega (arith, a, b)
  row_width p ls ts rest (nested q l inner after r bs us m inside more) =
      let a = Means-narrow q l (braces inner) m in
      let b = inner_width inner bs after inside in
      let c = row_width _ after us r more in
      omega (arith, a, b, c)

  inner_width : (ls : List Lexeme) (bs : Branches) (rest : List Lexeme) → Inner ls bs rest
      → branches_width bs + row_weight rest + 1 ≤ row_weight ls
  inner_width ls bs rest (last_branch l r ts row) =
      let a = row_width _ l ts (closing ∷ r) row in
      let b = add_width ts no_branch in
      omega (arith, a, b)
  inner_width ls bs rest (further_branch l mid r ts cs row more) =
      let a = row_width _ l ts (comma ∷ mid) row in
      let b = inner_width mid cs r more in
      let c = add_width ts cs in
      omega (arith, a, b, c)

-- a lexeme weighs no more than its characters
abbrev IsLight : List ℕ → Step → Type 0
IsLight text (P.lexeme l rest e) = weight l + length rest ≤ length text
IsLight text (P.fault f) = Unit {0}
IsLight text P.ended = Unit {0}

Bracket-light : (o : Options) (depth : ℕ) (text : List ℕ) (s : Step) → Bracket o depth text s → IsLight (91 ∷ text) s
Bracket-light o depth text s (P.whole body rest items c i a) = let l =
    IsRest-shorter (91 ∷ text) rest (Bracket-rest o depth text _ (P.whole body rest items c i a)) in omega (arith, l)
Bracket-light o depth text s (P.disordered body rest items c i a) = tt
Bracket-light o depth text s (P.literal none allowed) = omega arith
Bracket-light o depth text s (P.unclosed none refused) = tt

Begins-light : (o : Options) (d : ℕ) (text : List ℕ) (s : Step) → Begins o d text s → IsLight text s
Begins-light o d text s (P.ordinary d' c rest p) = omega arith
Begins-light o d text s (P.escape d' c rest) = omega arith
Begins-light o d text s (P.dangling d') = tt
Begins-light o d text s (P.question d' rest) = omega arith
Begins-light o d text s (P.stars d' n rest p) =
    let a = length-append (replicate (suc n) 42) rest in
    let b = length-replicate {A = ℕ} (suc n) 42 in
    omega (arith, a, b)
Begins-light o d text s (P.bracket d' inside step b) = Bracket-light o d' inside step b
Begins-light o d text s (P.opens d' rest h) = omega arith
Begins-light o d text s (P.too_deep d' rest h) = tt
Begins-light o d text s (P.separates d' rest) = omega arith
Begins-light o d text s (P.closes d' rest) = omega arith
Begins-light o d text s (P.unopened rest) = tt
Begins-light o d text s (P.left_open d') = tt
Begins-light o d text s P.end = tt

abbrev IsLightRow : List ℕ → Result (List Lexeme) GlobFault → Type 0
IsLightRow text (Ok row) = row_weight row ≤ length text
IsLightRow text (Err f) = Unit {0}

put_light : (text rest : List ℕ) (l : Lexeme) (out : Result (List Lexeme) GlobFault) → weight l + length rest ≤ length text
    → IsLightRow rest out → IsLightRow text (put_first l out)
put_light text rest l (Ok row) a b = omega (arith, a, b)
put_light text rest l (Err f) a b = tt

Lexed-light : (o : Options) (d : ℕ) (text : List ℕ) (out : Result (List Lexeme) GlobFault) → Lexed o d text out → IsLightRow text out
Lexed-light o d text out (P.ends d' t b) = omega arith
Lexed-light o d text out (P.stops d' t f b) = tt
Lexed-light o d text out (P.continues d' e t rest l more b lexed) =
    put_light t rest l more (Begins-light o d' t (P.lexeme l rest e) b) (Lexed-light o e rest more lexed)

pub reads_bound : (o : Options) (text : List ℕ) (ts : Tokens) → Reads o text ts → positions ts ≤ length text
reads_bound o text ts (row, lexed, means) =
    let a = row_width _ row ts [] means in
    let b : row_weight row ≤ length text = Lexed-light o 0 text (Ok row) lexed in
    let c = positions_width ts in
    omega (arith, a, b, c)
