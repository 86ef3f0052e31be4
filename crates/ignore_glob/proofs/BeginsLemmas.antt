-- The rows of the tables, at values that are known by equations.
use Rattle.std.proofs.Common.{◌≡◌, ◌+◌, ◌-◌, ◌<◌, ◌≤◌, ℕ, zero, suc, Bool, true, false, ◌&&◌, List, [], ◌∷◌, ◌++◌, replicate, Err, Result}
use Rattle.std.proofs.Common.{refl, sym, ap, ◌∙◌, subst, add-one, arith}
use Rattle.ignore_glob.specs.declared.glob.options.Options.{Options}
use Rattle.ignore_glob.specs.declared.glob.fault.GlobFault.{GlobFault}
use Rattle.ignore_glob.specs.declared.glob.fault.GlobFault.TheVariants.{UnopenedAlternates, UnclosedAlternates, InvalidRange, UnclosedClass}
use Rattle.ignore_glob.specs.declared.glob.fault.PatternError.{PatternError}
use Rattle.ignore_glob.specs.declared.glob.fault.PatternError.TheVariants as Why
use Rattle.ignore_glob.specs.GlobFaults.{IfFault}
use Rattle.ignore_glob.specs.Lexing.{Lexeme, char, run, class, comma, closing, opening, lexeme, fault, ended, NoStarFirst, Closes, Items}
use Rattle.ignore_glob.specs.Lexing.{are_in_order, ranges, is_negated, after_sign, Bracket, whole, disordered, literal, unclosed, Begins}
use Rattle.ignore_glob.specs.Lexing.{ordinary, stars, bracket, opens, separates, closes, unopened, end, Lexed, stops}
use Rattle.ignore_glob.specs.Lexing as P
use Rattle.ignore_glob.proofs.LexemeLemmas.{put_all, put_all-err}

pub stars_at : (o : Options) (d n : ℕ) (text rest : List ℕ) → text ≡ replicate n 42 ++ rest → NoStarFirst rest
    → Begins o d (42 ∷ text) (lexeme (run (n + 1)) rest d)
stars_at o d n text rest e p =
    let S : List ℕ → Type 0 = λ t. Begins o d (42 ∷ t) (lexeme (run (n + 1)) rest d) in subst S (sym e) (rw add-one (stars d n rest p))

pub opens_at : (o : Options) (d : ℕ) (rest : List ℕ) → d < 64 → Begins o d (123 ∷ rest) (lexeme opening rest (d + 1))
opens_at o d rest h = rw add-one (opens d rest h)

pub closes_at : (o : Options) (d : ℕ) (rest : List ℕ) → 0 < d → Begins o d (125 ∷ rest) (lexeme closing rest (d - 1))
closes_at o zero rest h = absurd (omega arith)
closes_at o (suc d) rest h = let e : suc d - 1 ≡ d = omega arith in rw e (closes d rest)

pub unopened_at : (o : Options) (d : ℕ) (rest : List ℕ) → d ≤ 0 → Begins o d (125 ∷ rest) (fault UnopenedAlternates)
unopened_at o zero rest h = unopened rest
unopened_at o (suc d) rest h = absurd (omega arith)

pub separates_at : (o : Options) (d : ℕ) (rest : List ℕ) → 0 < d → Begins o d (44 ∷ rest) (lexeme comma rest d)
separates_at o zero rest h = absurd (omega arith)
separates_at o (suc d) rest h = separates d rest

pub comma_at : (o : Options) (d : ℕ) (rest : List ℕ) → d ≤ 0 → Begins o d (44 ∷ rest) (lexeme (char 44) rest d)
comma_at o zero rest h = ordinary 0 44 rest refl
comma_at o (suc d) rest h = absurd (omega arith)

pub unclosed_at : (o : Options) (d : ℕ) → 0 < d → Begins o d [] (fault UnclosedAlternates)
unclosed_at o zero h = absurd (omega arith)
unclosed_at o (suc d) h = P.left_open d

pub end_at : (o : Options) (d : ℕ) → d ≤ 0 → Begins o d [] ended
end_at o zero h = end
end_at o (suc d) h = absurd (omega arith)

module _ (o : Options) (d : ℕ) (text inside : List ℕ) (inside_is : inside ≡ after_sign text) where
  same_inside : (b r : List ℕ) → Closes inside b r → Closes (after_sign text) b r
  same_inside b r c = let C : List ℕ → Type 0 = λ t. Closes t b r in subst C inside_is c

  pub class_at : (negated : Bool) (body rest : List ℕ) (rs : List (ℕ × ℕ)) (items : List (ℕ × List ℕ)) → negated ≡ is_negated text
      → Closes inside body rest → Items body items → are_in_order items ≡ true → rs ≡ ranges items
      → Begins o d (91 ∷ text) (lexeme (class negated rs) rest d)
  class_at negated body rest rs items n c i a r = rw (n, r) (bracket d text _ (whole body rest items (same_inside body rest c) i a))

  pub disordered_at : (body rest : List ℕ) (items : List (ℕ × List ℕ)) → Closes inside body rest → Items body items
      → are_in_order items ≡ false → Begins o d (91 ∷ text) (fault InvalidRange)
  disordered_at body rest items c i a = bracket d text _ (disordered body rest items (same_inside body rest c) i a)

  none_inside : ((b r : List ℕ) → Closes inside b r → ⊥) → (b r : List ℕ) → Closes (after_sign text) b r → ⊥
  none_inside u b r c = let C : List ℕ → Type 0 = λ t. Closes t b r in u b r (subst C (sym inside_is) c)

  pub literal_at : ((b r : List ℕ) → Closes inside b r → ⊥) → o.allow_unclosed_class ≡ true
      → Begins o d (91 ∷ text) (lexeme (char 91) text d)
  literal_at u a = bracket d text _ (literal (none_inside u) a)

  pub unclosed_class_at : ((b r : List ℕ) → Closes inside b r → ⊥) → o.allow_unclosed_class ≡ false
      → Begins o d (91 ∷ text) (fault UnclosedClass)
  unclosed_class_at u a = bracket d text _ (unclosed (none_inside u) a)

pub and_left : (a b x : Bool) → a ≡ b → a ≡ true → (b && x) ≡ x
and_left a b x e h = ap (λ c. c && x) (sym e ∙ h)

pub and_fails : (a b x : Bool) → a ≡ b → a ≡ false → (b && x) ≡ false
and_fails a b x e h = ap (λ c. c && x) (sym e ∙ h)

-- a fault of the rest is the fault of the whole
pub fault_at : (o : Options) (d : ℕ) (text rest begun : List ℕ) (e : PatternError) (row : List Lexeme) → rest ≡ begun
    → IfFault e (λ f. Begins o d begun (fault f)) →
    ((out : Result (List Lexeme) GlobFault) → Lexed o d rest out → Lexed o 0 text (put_all row out))
    → IfFault e (λ f. Lexed o 0 text (Err f))
fault_at o d text rest begun (Why.Fault f) row e b carry =
    let B : List ℕ → Type 0 = λ t. Begins o d t (fault f) in rw put_all-err at (carry (Err f) (stops d rest f (subst B (sym e) b)))
fault_at o d text rest begun Why.Memory row e b carry = tt
