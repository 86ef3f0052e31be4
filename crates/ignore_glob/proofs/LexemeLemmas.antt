-- Rows that grow, and texts that are walked through.
use Rattle.std.proofs.Common.{◌≡◌, ◌≢◌, ◌≤◌, Bool, true, false, ◌&&◌, ℕ, zero, suc, List, [], ◌∷◌, ◌++◌, length, take, Result, Ok, Err}
use Rattle.std.proofs.Common.{refl, sym, ap, ◌∙◌, subst, append_assoc, arith}
use Rattle.std.specs.List.{AllByRecursion, list_all}
use Rattle.ignore_glob.specs.declared.glob.fault.GlobFault.{GlobFault}
use Rattle.ignore_glob.specs.declared.glob.lexeme.Lexeme.{Lexeme as CodeLexeme}
use Rattle.ignore_glob.specs.Lexing.{Lexeme, put_first, turns, last_end, after_sign}
use Rattle.ignore_glob.specs.LexemeViews.{lexeme_view, row_view}
use Rattle.ignore_glob.specs.ParserSteps.{ClosesBefore}
use Rattle.ignore_glob.proofs.BracketLemmas.{sign-cut}

-- an outcome, with these lexemes before it
abbrev pub put_all : List Lexeme → Result (List Lexeme) GlobFault → Result (List Lexeme) GlobFault
put_all [] out = out
put_all (l ∷ ls) out = put_first l (put_all ls out)

pub put_all-push : (ls : List CodeLexeme) (l : CodeLexeme) (out : Result (List Lexeme) GlobFault)
    → put_all (row_view (ls ++ l ∷ [])) out ≡ put_all (row_view ls) (put_first (lexeme_view l) out)
put_all-push [] l out = refl
put_all-push (k ∷ ls) l out = ap (λ x. put_first (lexeme_view k) x) (put_all-push ls l out)

pub put_all-ok : (ls : List Lexeme) → put_all ls (Ok []) ≡ Ok ls
put_all-ok [] = refl
put_all-ok (l ∷ ls) = ap (λ x. put_first l x) (put_all-ok ls)

pub put_all-err : (ls : List Lexeme) (f : GlobFault) → put_all ls (Err f) ≡ Err f
put_all-err [] f = refl
put_all-err (l ∷ ls) f = ap (λ x. put_first l x) (put_all-err ls f)

pub no_closing : (xs : List ℕ) → AllByRecursion (λ c. c ≢ 93) xs → (m r : List ℕ) → xs ≡ m ++ 93 ∷ r → ⊥
no_closing [] a [] r e = cc e
no_closing [] a (c ∷ m) r e = cc e
no_closing (x ∷ xs) a [] r e = a.0 (cc)
no_closing (x ∷ xs) a (c ∷ m) r e = let h : xs ≡ m ++ 93 ∷ r = (cc) in no_closing xs a.1 m r h

pub all-take : (xs : List ℕ) (i : ℕ) → length xs ≤ i → AllByRecursion (λ c. c ≢ 93) (take i xs) → AllByRecursion (λ c. c ≢ 93) xs
all-take [] i h a = tt
all-take (x ∷ xs) zero h a = absurd (omega arith)
all-take (x ∷ xs) (suc i) h a = (a.0, all-take xs i (omega arith) a.1)

-- one more turn
pub turns-more : (ends : List ℕ) (e : ℕ) (rest : List ℕ) → turns ends ++ 45 ∷ e ∷ rest ≡ turns (ends ++ e ∷ []) ++ rest
turns-more [] e rest = refl
turns-more (d ∷ ends) e rest = ap (λ x. 45 ∷ d ∷ x) (turns-more ends e rest)

pub last_end-more : (ends : List ℕ) (c e : ℕ) → e ≡ last_end c (ends ++ e ∷ [])
last_end-more [] c e = refl
last_end-more (d ∷ ends) c e = last_end-more ends d e

pub list_all-more : (p : ℕ → Bool) (ends : List ℕ) (e : ℕ) → list_all p (ends ++ e ∷ []) ≡ (list_all p ends && p e)
list_all-more p [] e = one (p e) where
  one : (b : Bool) → (b && true) ≡ (true && b)
  one true = refl
  one false = refl
list_all-more p (d ∷ ends) e = ap (λ b. p d && b) (list_all-more p ends e) ∙ assoc (p d) (list_all p ends) (p e) where
  assoc : (a b c : Bool) → (a && (b && c)) ≡ ((a && b) && c)
  assoc true b c = refl
  assoc false b c = refl

-- what follows each `]` of a text follows it in a rest of the text
pub ClosesBefore-rest : (n : ℕ) (text prefix rest : List ℕ) → text ≡ prefix ++ rest → ClosesBefore n text → ClosesBefore n rest
ClosesBefore-rest n text prefix rest e h m r f = h (prefix ++ m) r (e ∙ (ap (λ x. prefix ++ x) f ∙ sym (append_assoc prefix m (93 ∷ r))))

pub ClosesBefore-sign : (n : ℕ) (text inside : List ℕ) → inside ≡ after_sign text → ClosesBefore n text → ClosesBefore n inside
ClosesBefore-sign n text inside e h =
    let C : List ℕ → Type 0 = λ x. ClosesBefore n x in let s = sign-cut text in
    subst C (sym e) (ClosesBefore-rest n text s.0 (after_sign text) s.1 h)
