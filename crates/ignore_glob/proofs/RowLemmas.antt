-- A row of lexemes has one list of tokens at most.
use Rattle.std.proofs.Common.{◌≡◌, inl, inr, ℕ, zero, suc, Bool, true, false, ◌==◌, ◌&&◌, if◌then◌else◌, List, [], ◌∷◌, Ok, Err, Result}
use Rattle.std.proofs.Common.{refl, sym, ap, ◌∙◌, subst}
use Rattle.std.proofs.lemmas.Bool.{cases_eq, ne_eqb}
use Rattle.ignore_glob.specs.declared.glob.options.Options.{Options}
use Rattle.ignore_glob.specs.declared.glob.fault.GlobFault.{GlobFault}
use Rattle.ignore_glob.specs.Glob as G
use Rattle.ignore_glob.specs.Glob.{Token, Tokens, done, then, Branches, no_branch, branch}
use Rattle.ignore_glob.specs.Lexing.{Lexeme, char, escaped, any, run, class, opening, comma, closing}
use Rattle.ignore_glob.specs.Row.{IsSlash, Ends, of_glob, at_comma, at_closing, stars_before, BeforeSlash, AtEnd, Left, glob_start, branch_start}
use Rattle.ignore_glob.specs.Row.{lexeme, IsStart, IsRecursive, Meaning, gives, braces, ended, Means, character, escape, question, bracket}
use Rattle.ignore_glob.specs.Row.{stars, slash, middle, end, start, start_to_end, alone, opens, ends, times, add_branch, Row, nothing}
use Rattle.ignore_glob.specs.Row.{further, nested, Inner, last_branch, further_branch, Reads, IsFaulty}
use Rattle.ignore_glob.proofs.OutcomeLemmas.{Lexed-same}

-- how many times the row goes on with `**/`, and what follows
abbrev past_chain : List Lexeme → ℕ × List Lexeme
past_chain (run n ∷ char c ∷ ls) = if n == 2 && c == 47 then (suc (past_chain ls).0, (past_chain ls).1) else (0, run n ∷ char c ∷ ls)
past_chain ls = (0, ls)

abbrev is_end : List Lexeme → Bool
is_end [] = true
is_end (comma ∷ ls) = true
is_end (closing ∷ ls) = true
is_end ls = false

abbrev is_at_end : List Lexeme → Bool
is_at_end (run n ∷ ls) = n == 2 && is_end ls
is_at_end ls = false

abbrev tail : List Lexeme → List Lexeme
tail [] = []
tail (l ∷ ls) = ls

abbrev slash_or_middle : ℕ → Token
slash_or_middle zero = G.literal 47
slash_or_middle (suc n) = G.middle

abbrev after_slash : ℕ × List Lexeme → Meaning
after_slash q = if is_at_end q.1 then gives 1 G.end (tail q.1) else gives 1 (slash_or_middle q.0) q.1

abbrev at_chain : ℕ → List Lexeme → Meaning → Meaning
at_chain zero rest other = other
at_chain (suc n) rest other = gives 1 G.start (if is_at_end rest then tail rest else rest)

abbrev lone : ℕ → List Lexeme → Meaning
lone n [] = if n == 2 then gives 1 G.start [] else gives n G.star []
lone n (l ∷ ls) = gives n G.star (l ∷ ls)

abbrev at_run : Left → ℕ → List Lexeme → Meaning
at_run lexeme n ls = gives n G.star ls
at_run branch_start n ls = at_chain (past_chain (run n ∷ ls)).0 (past_chain (run n ∷ ls)).1 (gives n G.star ls)
at_run glob_start n ls = at_chain (past_chain (run n ∷ ls)).0 (past_chain (run n ∷ ls)).1 (lone n ls)

-- what a row begins with, computed
abbrev meaning_of : Left → List Lexeme → Meaning
meaning_of p [] = ended
meaning_of p (char c ∷ ls) = if c == 47 then after_slash (past_chain ls) else gives 1 (G.literal c) ls
meaning_of p (escaped c ∷ ls) = if c == 47 then after_slash (past_chain ls) else gives 1 (G.literal c) ls
meaning_of p (any ∷ ls) = gives 1 G.any ls
meaning_of p (run n ∷ ls) = at_run p n ls
meaning_of p (class negated ranges ∷ ls) = gives 1 (G.class negated ranges) ls
meaning_of p (opening ∷ ls) = braces ls
meaning_of p (comma ∷ ls) = ended
meaning_of p (closing ∷ ls) = ended

before_slash : (n c : ℕ) (ls : List Lexeme) → (BeforeSlash (run n ∷ char c ∷ ls) → ⊥) → (n == 2 && c == 47) ≡ false
before_slash n c ls p = elim (cases_eq n 2) [
  | inr k ↦ ap (λ b. b && c == 47) (ne_eqb n 2 k)
  | inl e ↦ elim (cases_eq c 47) [
    | inr k ↦ rw (ne_eqb c 47 k) (ap (λ m. m == 2 && false) e)
    | inl f ↦ absurd (p (ls, cc (e, f)))
  ]
]

past_chain-none : (rest : List Lexeme) → (BeforeSlash rest → ⊥) → past_chain rest ≡ (0, rest)
past_chain-none (run n ∷ char c ∷ ls) p =
    ap (λ b. if b then (suc (past_chain ls).0, (past_chain ls).1) else (0, run n ∷ char c ∷ ls)) (before_slash n c ls p)
past_chain-none ls p = refl

past_chain-chain : (n : ℕ) (rest : List Lexeme) → (BeforeSlash rest → ⊥) → past_chain (stars_before n rest) ≡ (n, rest)
past_chain-chain zero rest p = past_chain-none rest p
past_chain-chain (suc n) rest p = ap (λ (q : ℕ × List Lexeme). (suc q.0, q.1)) (past_chain-chain n rest p)

is_end-true : (ls : List Lexeme) → Ends ls → is_end ls ≡ true
is_end-true ls of_glob = refl
is_end-true ls (at_comma more) = refl
is_end-true ls (at_closing more) = refl

is_end-false : (ls : List Lexeme) → (Ends ls → ⊥) → is_end ls ≡ false
is_end-false [] p = absurd (p of_glob)
is_end-false (comma ∷ ls) p = absurd (p (at_comma ls))
is_end-false (closing ∷ ls) p = absurd (p (at_closing ls))
is_end-false ls p = refl

is_at_end-false : (ls : List Lexeme) → (AtEnd ls → ⊥) → is_at_end ls ≡ false
is_at_end-false (run n ∷ ls) p = elim (cases_eq n 2) [
  | inr k ↦ ap (λ b. b && is_end ls) (ne_eqb n 2 k)
  | inl e ↦ ap (λ m. m == 2 && is_end ls) e ∙ is_end-false ls (λ h. p (ls, ap (λ m. run m ∷ ls) e, h))
]
is_at_end-false ls p = refl

-- a run at the end is before no slash
ends_before : (rest : List Lexeme) → Ends rest → BeforeSlash (run 2 ∷ rest) → ⊥
ends_before rest of_glob h = let e = h.1 in cc e
ends_before rest (at_comma more) h = let e = h.1 in cc e
ends_before rest (at_closing more) h = let e = h.1 in cc e

slash_meaning : (p : Left) (l : Lexeme) (ls : List Lexeme) → IsSlash l → meaning_of p (l ∷ ls) ≡ after_slash (past_chain ls)
slash_meaning p l ls (inl e) = ap (λ x. meaning_of p (x ∷ ls)) e
slash_meaning p l ls (inr e) = ap (λ x. meaning_of p (x ∷ ls)) e

chain_meaning : (n : ℕ) (rest : List Lexeme) → (BeforeSlash rest → ⊥) → (AtEnd rest → ⊥)
    → after_slash (past_chain (stars_before n rest)) ≡ gives 1 (slash_or_middle n) rest
chain_meaning n rest b a =
    ap after_slash (past_chain-chain n rest b) ∙ ap (λ t. if t then gives 1 G.end (tail rest) else gives 1 (slash_or_middle n) rest)
    (is_at_end-false rest a)

end_meaning : (n : ℕ) (rest : List Lexeme) → Ends rest → after_slash (past_chain (stars_before n (run 2 ∷ rest))) ≡ gives 1 G.end rest
end_meaning n rest h =
    ap after_slash (past_chain-chain n (run 2 ∷ rest) (ends_before rest h))
    ∙ ap (λ t. if t then gives 1 G.end rest else gives 1 (slash_or_middle n) (run 2 ∷ rest)) (is_end-true rest h)

start_meaning : (p : Left) (n : ℕ) (rest : List Lexeme) → IsStart p → (BeforeSlash rest → ⊥)
    → meaning_of p (stars_before (suc n) rest) ≡ gives 1 G.start (if is_at_end rest then tail rest else rest)
start_meaning glob_start n rest s b =
    ap (λ (q : ℕ × List Lexeme). gives 1 G.start (if is_at_end q.1 then tail q.1 else q.1)) (past_chain-chain n rest b)
start_meaning branch_start n rest s b =
    ap (λ (q : ℕ × List Lexeme). gives 1 G.start (if is_at_end q.1 then tail q.1 else q.1)) (past_chain-chain n rest b)
start_meaning lexeme n rest s b = absurd s

lone-stars : (n : ℕ) (ls : List Lexeme) → (run n ∷ ls ≡ run 2 ∷ [] → ⊥) → lone n ls ≡ gives n G.star ls
lone-stars n [] p = ap (λ b. if b then gives 1 G.start [] else gives n G.star []) (ne_eqb n 2 (λ e. p (ap (λ m. run m ∷ []) e)))
lone-stars n (l ∷ ls) p = refl

stars_meaning : (p : Left) (n : ℕ) (ls : List Lexeme) → (IsRecursive p (run n ∷ ls) → ⊥) → at_run p n ls ≡ gives n G.star ls
stars_meaning glob_start n ls r =
    ap (λ (q : ℕ × List Lexeme). at_chain q.0 q.1 (lone n ls)) (past_chain-none (run n ∷ ls) (λ b. r (inl b)))
    ∙ lone-stars n ls (λ e. r (inr e))
stars_meaning branch_start n ls r = ap (λ (q : ℕ × List Lexeme). at_chain q.0 q.1 (gives n G.star ls)) (past_chain-none (run n ∷ ls) r)
stars_meaning lexeme n ls r = refl

Means-meaning : (p : Left) (ls : List Lexeme) (m : Meaning) → Means p ls m → m ≡ meaning_of p ls
Means-meaning p ls m (character q c rest n) =
    sym (ap (λ b. if b then after_slash (past_chain rest) else gives 1 (G.literal c) rest) (ne_eqb c 47 n))
Means-meaning p ls m (escape q c rest n) =
    sym (ap (λ b. if b then after_slash (past_chain rest) else gives 1 (G.literal c) rest) (ne_eqb c 47 n))
Means-meaning p ls m (question q rest) = refl
Means-meaning p ls m (bracket q negated ranges rest) = refl
Means-meaning p ls m (stars q n rest r) = sym (stars_meaning q n rest r)
Means-meaning p ls m (slash q l rest s b a) = sym (slash_meaning q l rest s ∙ chain_meaning 0 rest b a)
Means-meaning p ls m (middle q l n rest s b a) = sym (slash_meaning q l (stars_before (suc n) rest) s ∙ chain_meaning (suc n) rest b a)
Means-meaning p ls m (end q l n rest s h) = sym (slash_meaning q l (stars_before n (run 2 ∷ rest)) s ∙ end_meaning n rest h)
Means-meaning p ls m (start q n rest s b a) =
    sym (start_meaning q n rest s b ∙ ap (λ t. gives 1 G.start (if t then tail rest else rest)) (is_at_end-false rest a))
Means-meaning p ls m (start_to_end q n rest s h) =
    sym (start_meaning q n (run 2 ∷ rest) s (ends_before rest h)
    ∙ ap (λ t. gives 1 G.start (if t then rest else run 2 ∷ rest)) (is_end-true rest h))
Means-meaning p ls m alone = refl
Means-meaning p ls m (opens q rest) = refl
Means-meaning p ls m (ends q rest h) = ends_ended q rest h where
  ends_ended : (p : Left) (ls : List Lexeme) → Ends ls → ended ≡ meaning_of p ls
  ends_ended p ls of_glob = refl
  ends_ended p ls (at_comma more) = refl
  ends_ended p ls (at_closing more) = refl

pub Means-same : (p : Left) (ls : List Lexeme) (m k : Meaning) → Means p ls m → Means p ls k → m ≡ k
Means-same p ls m k a b = Means-meaning p ls m a ∙ sym (Means-meaning p ls k b)

mutual
  pub Row-same : (p : Left) (ls r s : List Lexeme) (ts us : Tokens) → Row p ls ts r → Row p ls us s → (ts ≡ us) × (r ≡ s)
  Row-same p ls r s ts us (nothing p1 l1 a) (nothing p2 l2 b) = (refl, refl)
  Row-same p ls r s ts us (nothing p1 l1 a) (further p2 l2 mid rest n t vs b w) =
      absurd (let e : ended ≡ gives n t mid = Means-same p1 l1 ended (gives n t mid) a b in cc e)
  Row-same p ls r s ts us (nothing p1 l1 a) (nested p2 l2 inner after rest bs vs b i w) =
      absurd (let e : ended ≡ braces inner = Means-same p1 l1 ended (braces inner) a b in cc e)
  Row-same p ls r s ts us (further p1 l1 mid rest n t vs a v) (nothing p2 l2 b) =
      absurd (let e : gives n t mid ≡ ended = Means-same p1 l1 (gives n t mid) ended a b in cc e)
  Row-same p ls r s ts us (further p1 l1 mid rest n t vs a v) (further p2 l2 mid' rest' n' t' vs' b w) =
      let e : gives n t mid ≡ gives n' t' mid' = Means-same p1 l1 (gives n t mid) (gives n' t' mid') a b in
      let n_is : n ≡ n' = cc e in
      let t_is : t ≡ t' = cc e in
      let mid_is : mid ≡ mid' = cc e in
      let P : List Lexeme → Type 0 = λ x. Row lexeme x vs' rest' in
      let h = Row-same lexeme mid rest rest' vs vs' v (subst P (sym mid_is) w) in
      (ap (λ x. times x t vs) n_is ∙ (ap (λ x. times n' x vs) t_is ∙ ap (λ x. times n' t' x) h.0), h.1)
  Row-same p ls r s ts us (further p1 l1 mid rest n t vs a v) (nested p2 l2 inner after rest' bs vs' b i w) =
      absurd (let e : gives n t mid ≡ braces inner = Means-same p1 l1 (gives n t mid) (braces inner) a b in cc e)
  Row-same p ls r s ts us (nested p1 l1 inner after rest bs vs a i v) (nothing p2 l2 b) =
      absurd (let e : braces inner ≡ ended = Means-same p1 l1 (braces inner) ended a b in cc e)
  Row-same p ls r s ts us (nested p1 l1 inner after rest bs vs a i v) (further p2 l2 mid' rest' n' t' vs' b w) =
      absurd (let e : braces inner ≡ gives n' t' mid' = Means-same p1 l1 (braces inner) (gives n' t' mid') a b in cc e)
  Row-same p ls r s ts us (nested p1 l1 inner after rest bs vs a i v) (nested p2 l2 inner' after' rest' cs vs' b j w) =
      let e : braces inner ≡ braces inner' = Means-same p1 l1 (braces inner) (braces inner') a b in
      let inner_is : inner ≡ inner' = cc e in
      let Q : List Lexeme → Type 0 = λ x. Inner x cs after' in
      let g = Inner-same inner after after' bs cs i (subst Q (sym inner_is) j) in
      let P : List Lexeme → Type 0 = λ x. Row lexeme x vs' rest' in
      let h = Row-same lexeme after rest rest' vs vs' v (subst P (sym g.1) w) in
      (ap (λ x. (then) (G.alternates x) vs) g.0 ∙ ap (λ x. (then) (G.alternates cs) x) h.0, h.1)

  pub Inner-same : (ls r s : List Lexeme) (bs cs : Branches) → Inner ls bs r → Inner ls cs s → (bs ≡ cs) × (r ≡ s)
  Inner-same ls r s bs cs (last_branch l1 rest ts v) (last_branch l2 rest' us w) =
      let h = Row-same branch_start l1 (closing ∷ rest) (closing ∷ rest') ts us v w in
      let rest_is : rest ≡ rest' = cc h.1 in
      (ap (λ x. add_branch x no_branch) h.0, rest_is)
  Inner-same ls r s bs cs (last_branch l1 rest ts v) (further_branch l2 mid rest' us ds w j) =
      absurd (let h = Row-same branch_start l1 (closing ∷ rest) (comma ∷ mid) ts us v w in cc h.1)
  Inner-same ls r s bs cs (further_branch l1 mid rest ts ds v i) (last_branch l2 rest' us w) =
      absurd (let h = Row-same branch_start l1 (comma ∷ mid) (closing ∷ rest') ts us v w in cc h.1)
  Inner-same ls r s bs cs (further_branch l1 mid rest ts ds v i) (further_branch l2 mid' rest' us es w j) =
      let h = Row-same branch_start l1 (comma ∷ mid) (comma ∷ mid') ts us v w in
      let mid_is : mid ≡ mid' = cc h.1 in
      let Q : List Lexeme → Type 0 = λ x. Inner x es rest' in
      let g = Inner-same mid rest rest' ds es i (subst Q (sym mid_is) j) in
      (ap (λ x. add_branch x ds) h.0 ∙ ap (λ x. add_branch us x) g.0, g.1)

-- a text has one list of tokens at most
pub Reads-same : (o : Options) (text : List ℕ) (ts us : Tokens) → Reads o text ts → Reads o text us → ts ≡ us
Reads-same o text ts us a b =
    let e : ◌≡◌ {A = Result (List Lexeme) GlobFault} (Ok a.0) (Ok b.0) = Lexed-same o 0 text (Ok a.0) (Ok b.0) a.1 b.1 in
    let row_is : a.0 ≡ b.0 = cc e in
    let P : List Lexeme → Type 0 = λ x. Row glob_start x us [] in
    (Row-same glob_start a.0 [] [] ts us a.2 (subst P (sym row_is) b.2)).0

pub one_fault : (o : Options) (text : List ℕ) (f g : GlobFault) → IsFaulty o text f → IsFaulty o text g → f ≡ g
one_fault o text f g a b =
    let e : ◌≡◌ {A = Result (List Lexeme) GlobFault} (Err f) (Err g) = Lexed-same o 0 text (Err f) (Err g) a b in cc e

pub never_both : (o : Options) (text : List ℕ) (ts : Tokens) (f : GlobFault) → Reads o text ts → IsFaulty o text f → ⊥
never_both o text ts f a b =
    let e : ◌≡◌ {A = Result (List Lexeme) GlobFault} (Ok a.0) (Err f) = Lexed-same o 0 text (Ok a.0) (Err f) a.1 b in cc e
