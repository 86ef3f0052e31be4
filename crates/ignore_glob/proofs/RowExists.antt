-- A row whose braces are balanced has tokens.
use Rattle.std.proofs.Common.{◌≡◌, ◌⊎◌, inl, inr, ◌+◌, ◌*◌, ◌≤◌, ◌<◌, ℕ, zero, suc, List, [], ◌∷◌, length, Ok, Err, Result, refl, sym, ap}
use Rattle.std.proofs.Common.{subst, arith}
use Rattle.std.proofs.lemmas.Bool.{cases_eq}
use Rattle.ignore_glob.specs.declared.glob.options.Options.{Options}
use Rattle.ignore_glob.specs.declared.glob.fault.GlobFault.{GlobFault}
use Rattle.ignore_glob.specs.Glob as G
use Rattle.ignore_glob.specs.Glob.{Token, Tokens, done, Branches, no_branch, branch}
use Rattle.ignore_glob.specs.Lexing as P
use Rattle.ignore_glob.specs.Lexing.{Lexeme, char, escaped, any, run, class, opening, comma, closing, Step, Begins, put_first, Lexed}
use Rattle.ignore_glob.specs.Row.{IsSlash, Ends, of_glob, at_comma, at_closing, stars_before, BeforeSlash, AtEnd, Left, glob_start, branch_start}
use Rattle.ignore_glob.specs.Row.{lexeme, IsStart, Meaning, gives, braces, ended, Means, character, escape, question, bracket, stars, slash}
use Rattle.ignore_glob.specs.Row.{middle, end, start, start_to_end, alone, opens, ends, times, add_branch, Row, nothing, further, nested}
use Rattle.ignore_glob.specs.Row.{Inner, last_branch, further_branch, Reads}
use Rattle.ignore_glob.specs.ParserSteps.{Balanced}
use Rattle.ignore_glob.proofs.OutcomeLemmas.{find_outcome}

abbrev Nests : ℕ → Step → Type 0
Nests d (P.lexeme l rest e) = (row : List Lexeme) → Balanced row e → Balanced (l ∷ row) d
Nests d (P.fault f) = Unit {0}
Nests d P.ended = d ≡ 0

Bracket-nests : (o : Options) (d : ℕ) (text : List ℕ) (s : Step) → P.Bracket o d text s → Nests d s
Bracket-nests o d text s (P.whole body rest is c i a) = λ row b. b
Bracket-nests o d text s (P.disordered body rest is c i a) = tt
Bracket-nests o d text s (P.literal u b) = λ row h. h
Bracket-nests o d text s (P.unclosed u b) = tt

Begins-nests : (o : Options) (d : ℕ) (text : List ℕ) (s : Step) → Begins o d text s → Nests d s
Begins-nests o d text s (P.ordinary d' c rest p) = λ row b. b
Begins-nests o d text s (P.escape d' c rest) = λ row b. b
Begins-nests o d text s (P.dangling d') = tt
Begins-nests o d text s (P.question d' rest) = λ row b. b
Begins-nests o d text s (P.stars d' n rest p) = λ row b. b
Begins-nests o d text s (P.bracket d' inside step b) = Bracket-nests o d' inside step b
Begins-nests o d text s (P.opens d' rest h) = λ row b. b
Begins-nests o d text s (P.too_deep d' rest h) = tt
Begins-nests o d text s (P.separates d' rest) = λ row b. b
Begins-nests o d text s (P.closes d' rest) = λ row b. b
Begins-nests o d text s (P.unopened rest) = tt
Begins-nests o d text s (P.left_open d') = tt
Begins-nests o d text s P.end = refl

abbrev BalancedOutcome : Result (List Lexeme) GlobFault → ℕ → Type 0
BalancedOutcome (Ok row) d = Balanced row d
BalancedOutcome (Err f) d = Unit {0}

pub Lexed-balanced : (o : Options) (d : ℕ) (text : List ℕ) (out : Result (List Lexeme) GlobFault) → Lexed o d text out
    → BalancedOutcome out d
Lexed-balanced o d text out (P.ends d' t b) =
    let z : d' ≡ 0 = Begins-nests o d' t P.ended b in let B : ℕ → Type 0 = λ x. Balanced [] x in subst B (sym z) tt
Lexed-balanced o d text out (P.stops d' t f b) = tt
Lexed-balanced o d text out (P.continues d' e t rest l out' b w) =
    put out' (Lexed-balanced o e rest out' w) (Begins-nests o d' t (P.lexeme l rest e) b) where
      put : (out : Result (List Lexeme) GlobFault) → BalancedOutcome out e → ((row : List Lexeme) → Balanced row e → Balanced (l ∷ row) d')
          → BalancedOutcome (put_first l out) d'
      put (Ok row) h n = n row h
      put (Err f) h n = tt

find_chain : (ls : List Lexeme) → (n : ℕ) × (rest : List Lexeme) × (ls ≡ stars_before n rest) × (BeforeSlash rest → ⊥)
find_chain (run n ∷ char c ∷ ls) = elim (cases_eq n 2) [
  | inr k ↦ (0, run n ∷ char c ∷ ls, refl, (λ h. k (cc h.1)))
  | inl e ↦ elim (cases_eq c 47) [
    | inr k ↦ (0, run n ∷ char c ∷ ls, refl, (λ h. k (cc h.1)))
    | inl f ↦ let q = find_chain ls in (suc q.0, q.1, cc (e, f, q.2), q.3)
  ]
]
find_chain ls = (0, ls, refl, (λ h. cc h.1))

find_end : (ls : List Lexeme) → Ends ls ⊎ (Ends ls → ⊥)
find_end [] = inl of_glob
find_end (comma ∷ ls) = inl (at_comma ls)
find_end (closing ∷ ls) = inl (at_closing ls)
find_end ls = inr (λ h. elim h [ ])

find_at_end : (ls : List Lexeme) → AtEnd ls ⊎ (AtEnd ls → ⊥)
find_at_end (run n ∷ ls) = elim (cases_eq n 2) [
  | inr k ↦ inr (λ h. k (cc h.1))
  | inl e ↦ elim (find_end ls) [
    | inl h ↦ inl (ls, ap (λ m. run m ∷ ls) e, h)
    | inr k ↦ inr (λ h. let E : List Lexeme → Type 0 = λ x. Ends x in let same : h.0 ≡ ls = cc h.1 in k (subst E same h.2))
  ]
]
find_at_end ls = inr (λ h. cc h.1)

abbrev HasMeaning : Left → List Lexeme → Type 0
HasMeaning p ls = (m : Meaning) × Means p ls m

at_slash : (p : Left) (l : Lexeme) (ls : List Lexeme) → IsSlash l → HasMeaning p (l ∷ ls)
at_slash p l ls s =
    let q = find_chain ls in let M : List Lexeme → Type 0 = λ x. HasMeaning p (l ∷ x) in
    subst M (sym q.2) (by_end q.0 q.1 q.3 (find_at_end q.1)) where
      by_count : (n : ℕ) (rest : List Lexeme) → (BeforeSlash rest → ⊥) → (AtEnd rest → ⊥) → HasMeaning p (l ∷ stars_before n rest)
      by_count zero rest b a = (gives 1 (G.literal 47) rest, slash p l rest s b a)
      by_count (suc n) rest b a = (gives 1 G.middle rest, middle p l n rest s b a)

      by_end : (n : ℕ) (rest : List Lexeme) → (BeforeSlash rest → ⊥) → AtEnd rest ⊎ (AtEnd rest → ⊥) → HasMeaning p (l ∷ stars_before n rest)
      by_end n rest b (inl h) =
          let N : List Lexeme → Type 0 = λ x. HasMeaning p (l ∷ stars_before n x) in subst N (sym h.1) (gives 1 G.end h.0, end p l n h.0 s h.2)
      by_end n rest b (inr a) = by_count n rest b a

at_start : (p : Left) (n : ℕ) (rest : List Lexeme) → IsStart p → (BeforeSlash rest → ⊥) → HasMeaning p (stars_before (suc n) rest)
at_start p n rest s b = by_end (find_at_end rest) where
  by_end : AtEnd rest ⊎ (AtEnd rest → ⊥) → HasMeaning p (stars_before (suc n) rest)
  by_end (inl h) =
      let N : List Lexeme → Type 0 = λ x. HasMeaning p (stars_before (suc n) x) in
      subst N (sym h.1) (gives 1 G.start h.0, start_to_end p n h.0 s h.2)
  by_end (inr a) = (gives 1 G.start rest, start p n rest s b a)

find_lone : (n : ℕ) (ls : List Lexeme) → (BeforeSlash (run n ∷ ls) → ⊥) → HasMeaning glob_start (run n ∷ ls)
find_lone n [] b = elim (cases_eq n 2) [
  | inl e ↦ let M : ℕ → Type 0 = λ x. HasMeaning glob_start (run x ∷ []) in subst M (sym e) (gives 1 G.start [], alone)
  | inr k ↦ (gives n G.star [], stars glob_start n [] (λ r. elim r [ inl h ↦ b h | inr h ↦ k (cc h) ]))
]
find_lone n (l ∷ ls) b = (gives n G.star (l ∷ ls), stars glob_start n (l ∷ ls) (λ r. elim r [ inl h ↦ b h | inr h ↦ cc h ]))

find_run : (p : Left) (n : ℕ) (ls : List Lexeme) → HasMeaning p (run n ∷ ls)
find_run lexeme n ls = (gives n G.star ls, stars lexeme n ls (λ r. r))
find_run branch_start n ls = let q = find_chain (run n ∷ ls) in by_count q.0 q.1 q.2 q.3 where
  by_count : (k : ℕ) (rest : List Lexeme) → run n ∷ ls ≡ stars_before k rest → (BeforeSlash rest → ⊥) → HasMeaning branch_start (run n ∷ ls)
  by_count zero rest e b =
      let B : List Lexeme → Type 0 = λ x. BeforeSlash x → ⊥ in (gives n G.star ls, stars branch_start n ls (subst B (sym e) b))
  by_count (suc k) rest e b =
      let M : List Lexeme → Type 0 = λ x. HasMeaning branch_start x in subst M (sym e) (at_start branch_start k rest tt b)
find_run glob_start n ls = let q = find_chain (run n ∷ ls) in by_count q.0 q.1 q.2 q.3 where
  by_count : (k : ℕ) (rest : List Lexeme) → run n ∷ ls ≡ stars_before k rest → (BeforeSlash rest → ⊥) → HasMeaning glob_start (run n ∷ ls)
  by_count zero rest e b = let B : List Lexeme → Type 0 = λ x. BeforeSlash x → ⊥ in find_lone n ls (subst B (sym e) b)
  by_count (suc k) rest e b =
      let M : List Lexeme → Type 0 = λ x. HasMeaning glob_start x in subst M (sym e) (at_start glob_start k rest tt b)

find_meaning : (p : Left) (ls : List Lexeme) → HasMeaning p ls
find_meaning p [] = (ended, ends p [] of_glob)
find_meaning p (char c ∷ ls) = elim (cases_eq c 47) [
  | inl e ↦ at_slash p (char c) ls (inl (ap (λ x. char x) e))
  | inr k ↦ (gives 1 (G.literal c) ls, character p c ls k)
]
find_meaning p (escaped c ∷ ls) = elim (cases_eq c 47) [
  | inl e ↦ at_slash p (escaped c) ls (inr (ap (λ x. escaped x) e))
  | inr k ↦ (gives 1 (G.literal c) ls, escape p c ls k)
]
find_meaning p (any ∷ ls) = (gives 1 G.any ls, question p ls)
find_meaning p (run n ∷ ls) = find_run p n ls
find_meaning p (class negated ranges ∷ ls) = (gives 1 (G.class negated ranges) ls, bracket p negated ranges ls)
find_meaning p (opening ∷ ls) = (braces ls, opens p ls)
find_meaning p (comma ∷ ls) = (ended, ends p (comma ∷ ls) (at_comma ls))
find_meaning p (closing ∷ ls) = (ended, ends p (closing ∷ ls) (at_closing ls))

-- what a meaning leaves: a shorter row, balanced as before
abbrev pub Leaves : List Lexeme → Meaning → Type 0
Leaves ls (gives n t mid) = (length mid < length ls) × ((d : ℕ) → Balanced ls d → Balanced mid d)
Leaves ls (braces mid) = (length mid < length ls) × ((d : ℕ) → Balanced ls d → Balanced mid (suc d))
Leaves ls ended = Ends ls

chain-longer : (n : ℕ) (rest : List Lexeme) → length rest ≤ length (stars_before n rest)
chain-longer zero rest = omega arith
chain-longer (suc n) rest = omega (arith, chain-longer n rest)

chain-balanced : (n d : ℕ) (rest : List Lexeme) → Balanced (stars_before n rest) d → Balanced rest d
chain-balanced zero d rest b = b
chain-balanced (suc n) d rest b = chain-balanced n d rest b

slash-balanced : (l : Lexeme) (d : ℕ) (ls : List Lexeme) → IsSlash l → Balanced (l ∷ ls) d → Balanced ls d
slash-balanced l d ls (inl e) b = let B : Lexeme → Type 0 = λ x. Balanced (x ∷ ls) d in subst B e b
slash-balanced l d ls (inr e) b = let B : Lexeme → Type 0 = λ x. Balanced (x ∷ ls) d in subst B e b

pub Means-leaves : (p : Left) (ls : List Lexeme) (m : Meaning) → Means p ls m → Leaves ls m
Means-leaves p ls m (character q c rest n) = ((omega arith), λ d b. b)
Means-leaves p ls m (escape q c rest n) = ((omega arith), λ d b. b)
Means-leaves p ls m (question q rest) = ((omega arith), λ d b. b)
Means-leaves p ls m (bracket q negated ranges rest) = ((omega arith), λ d b. b)
Means-leaves p ls m (stars q n rest r) = ((omega arith), λ d b. b)
Means-leaves p ls m (slash q l rest s b a) = ((omega arith), λ d h. slash-balanced l d rest s h)
Means-leaves p ls m (middle q l n rest s b a) =
    (omega (arith, chain-longer n rest), λ d h. chain-balanced n d rest (slash-balanced l d (stars_before (suc n) rest) s h))
Means-leaves p ls m (end q l n rest s e) = (
  omega (arith, chain-longer n (run 2 ∷ rest)),
  λ d h. chain-balanced n d (run 2 ∷ rest) (slash-balanced l d (stars_before n (run 2 ∷ rest)) s h),
)
Means-leaves p ls m (start q n rest s b a) = (omega (arith, chain-longer n rest), λ d h. chain-balanced n d rest h)
Means-leaves p ls m (start_to_end q n rest s e) = (omega (arith, chain-longer n (run 2 ∷ rest)), λ d h. chain-balanced n d (run 2 ∷ rest) h)
Means-leaves p ls m alone = ((omega arith), λ d b. b)
Means-leaves p ls m (opens q rest) = ((omega arith), λ d b. b)
Means-leaves p ls m (ends q rest e) = e

-- a branch was read up to its end; branches were read past the closing brace
record HasRow (p : Left) (ls : List Lexeme) (d : ℕ) : Type 0 where
  tokens : Tokens
  rest : List Lexeme
  row : Row p ls tokens rest
  end_here : Ends rest
  balance : Balanced rest d
  shorter : length rest ≤ length ls

record HasInner (ls : List Lexeme) (d : ℕ) : Type 0 where
  branches : Branches
  rest : List Lexeme
  inner : Inner ls branches rest
  balance : Balanced rest d
  shorter : length rest < length ls

by_meaning : (p : Left) (ls : List Lexeme) (d : ℕ) (m : Meaning) → Means p ls m → Leaves ls m → Balanced ls d
    → ((mid : List Lexeme) → length mid < length ls → Balanced mid d → HasRow lexeme mid d)
    → ((mid : List Lexeme) → length mid < length ls → Balanced mid (suc d) → HasInner mid d) → HasRow p ls d
by_meaning p ls d ended m l b rows inners =
    record { tokens = done; rest = ls; row = nothing p ls m; end_here = l; balance = b; shorter = omega arith }
by_meaning p ls d (gives n t mid) m l b rows inners =
    let r = rows mid l.0 (l.1 d b) in
    record {
      tokens = times n t r.tokens;
      rest = r.rest;
      row = further p ls mid r.rest n t r.tokens m r.row;
      end_here =
          r.end_here;
      balance = r.balance;
      shorter = omega (arith, l.0, r.shorter);
    }
by_meaning p ls d (braces mid) m l b rows inners =
    let i = inners mid l.0 (l.1 d b) in
    let r = rows i.rest (omega (arith, l.0, i.shorter)) i.balance in
    record {
      tokens = G.then (G.alternates i.branches) r.tokens;
      rest = r.rest;
      row =
          nested p ls mid i.rest r.rest i.branches r.tokens m i.inner r.row;
      end_here = r.end_here;
      balance = r.balance;
      shorter =
          omega (arith, l.0, i.shorter, r.shorter);
    }

by_branch : (ls : List Lexeme) (d : ℕ) (ts : Tokens) (rest : List Lexeme) → Row branch_start ls ts rest → Ends rest → Balanced rest (suc d)
    → length rest ≤ length ls → ((mid : List Lexeme) → length mid < length ls → Balanced mid (suc d) → HasInner mid d) → HasInner ls d
by_branch ls d ts rest r of_glob b s inners = absurd b
by_branch ls d ts rest r (at_comma mid) b s inners =
    let i = inners mid (omega arith) b in
    record {
      branches = add_branch ts i.branches;
      rest = i.rest;
      inner = further_branch ls mid i.rest ts i.branches r i.inner;
      balance =
          i.balance;
      shorter = omega (arith, i.shorter);
    }
by_branch ls d ts rest r (at_closing mid) b s inners =
    record { branches = add_branch ts no_branch; rest = mid; inner = last_branch ls mid ts r; balance = b; shorter = omega arith }

mutual
  row_within : (n : ℕ) (p : Left) (ls : List Lexeme) (d : ℕ) → 2 * length ls < n → Balanced ls d → HasRow p ls d
  row_within zero p ls d h b = absurd (omega arith)
  row_within (suc n) p ls d h b =
      let f = find_meaning p ls in
      by_meaning p ls d f.0 f.1 (Means-leaves p ls f.0 f.1) b (λ mid k c. row_within n lexeme mid d (omega arith) c)
      (λ mid k c. inner_within n mid d (omega arith) c)

  inner_within : (n : ℕ) (ls : List Lexeme) (d : ℕ) → 2 * length ls + 1 < n → Balanced ls (suc d) → HasInner ls d
  inner_within zero ls d h b = absurd (omega arith)
  inner_within (suc n) ls d h b =
      let r = row_within n branch_start ls (suc d) (omega arith) b in
      by_branch ls d r.tokens r.rest r.row r.end_here r.balance r.shorter (λ mid k c. inner_within n mid d (omega arith) c)

pub ends_glob : (p : Left) (ls rest : List Lexeme) (ts : Tokens) → Row p ls ts rest → Ends rest → Balanced rest 0 → Row p ls ts []
ends_glob p ls rest ts r of_glob b = r
ends_glob p ls rest ts r (at_comma more) b = absurd b
ends_glob p ls rest ts r (at_closing more) b = absurd b

-- a text has tokens or a fault
pub find_reading : (o : Options) (text : List ℕ) → ((ts : Tokens) × Reads o text ts) ⊎ ((f : GlobFault) × Lexed o 0 text (Err f))
find_reading o text = let w = find_outcome o text in by_outcome w.0 w.1 (Lexed-balanced o 0 text w.0 w.1) where
  by_outcome : (out : Result (List Lexeme) GlobFault) → Lexed o 0 text out → BalancedOutcome out 0
      → ((ts : Tokens) × Reads o text ts) ⊎ ((f : GlobFault) × Lexed o 0 text (Err f))
  by_outcome (Ok ls) w b =
      let r = row_within (2 * length ls + 1) glob_start ls 0 (omega arith) b in
      inl (r.tokens, (ls, w, ends_glob glob_start ls r.rest r.tokens r.row r.end_here r.balance))
  by_outcome (Err f) w b = inr (f, w)
