-- The rows of the table of meanings, at values that are known by equations.
use Rattle.std.proofs.Common.{◌≡◌, ◌⊎◌, inl, inr, ◌↔◌, ◌+◌, ◌<◌, ◌≤◌, ℕ, zero, suc, Bool, IsTrue, List, [], ◌∷◌, refl, sym, ap, ◌∙◌, subst}
use Rattle.std.proofs.Common.{add-one, arith}
use Rattle.ignore_glob.specs.Glob as G
use Rattle.ignore_glob.specs.Lexing.{Lexeme, char, run, comma, closing}
use Rattle.ignore_glob.specs.Row.{IsSlash, Ends, of_glob, at_comma, at_closing, stars_before, BeforeSlash, AtEnd, Left, glob_start, branch_start}
use Rattle.ignore_glob.specs.Row.{lexeme, IsStart, IsRecursive, Meaning, gives, Means, slash, middle, end, stars, start, start_to_end}
use Rattle.ignore_glob.specs.Row.{alone}

chain-suc : (n : ℕ) (ls : List Lexeme) → stars_before n (run 2 ∷ char 47 ∷ ls) ≡ stars_before (suc n) ls
chain-suc zero ls = refl
chain-suc (suc n) ls = ap (λ x. run 2 ∷ char 47 ∷ x) (chain-suc n ls)

pub chain-more : (n : ℕ) (row rest more : List Lexeme) → row ≡ stars_before n rest → rest ≡ run 2 ∷ char 47 ∷ more → row ≡ stars_before (n + 1) more
chain-more n row rest more e f = rw add-one (e ∙ (ap (λ x. stars_before n x) f ∙ chain-suc n more))

pub ends_at : (b : Bool) (l : Lexeme) (row ls : List Lexeme) → row ≡ l ∷ ls → (IsTrue b ↔ ((l ≡ comma) ⊎ (l ≡ closing)))
    → IsTrue b ↔ Ends row
ends_at b l row ls e reported = (λ t. forth (reported.0 t), λ h. reported.1 (back row e h)) where
  forth : (l ≡ comma) ⊎ (l ≡ closing) → Ends row
  forth (inl c) =
      let E : List Lexeme → Type 0 = λ x. Ends x in let r : comma ∷ ls ≡ row = sym (e ∙ ap (λ x. x ∷ ls) c) in subst E r (at_comma ls)
  forth (inr c) =
      let E : List Lexeme → Type 0 = λ x. Ends x in let r : closing ∷ ls ≡ row = sym (e ∙ ap (λ x. x ∷ ls) c) in subst E r (at_closing ls)

  back : (r : List Lexeme) → r ≡ l ∷ ls → Ends r → (l ≡ comma) ⊎ (l ≡ closing)
  back r f of_glob = absurd (cc f)
  back r f (at_comma more) = inl (cc f)
  back r f (at_closing more) = inr (cc f)

pub ends_nil : (row : List Lexeme) → row ≡ [] → Ends row
ends_nil row e = let E : List Lexeme → Type 0 = λ x. Ends x in subst E (sym e) of_glob

module _ (p : Left) (l : Lexeme) (s : IsSlash l) (n : ℕ) (row rest : List Lexeme) (row_is : row ≡ stars_before n rest) where
  pub end_at : (more : List Lexeme) → rest ≡ run 2 ∷ more → Ends more → Means p (l ∷ row) (gives 1 G.end more)
  end_at more e h =
      let M : List Lexeme → Type 0 = λ x. Means p (l ∷ x) (gives 1 G.end more) in
      subst M (sym (row_is ∙ ap (λ x. stars_before n x) e)) (end p l n more s h)

  pub middle_at : 0 < n → (BeforeSlash rest → ⊥) → (AtEnd rest → ⊥) → Means p (l ∷ row) (gives 1 G.middle rest)
  middle_at h b a = let M : List Lexeme → Type 0 = λ x. Means p (l ∷ x) (gives 1 G.middle rest) in subst M (sym row_is) (by n h) where
    by : (k : ℕ) → 0 < k → Means p (l ∷ stars_before k rest) (gives 1 G.middle rest)
    by zero z = absurd (omega arith)
    by (suc k) z = middle p l k rest s b a

  pub slash_at : n ≤ 0 → (BeforeSlash rest → ⊥) → (AtEnd rest → ⊥) → Means p (l ∷ row) (gives 1 (G.literal 47) rest)
  slash_at h b a = let M : List Lexeme → Type 0 = λ x. Means p (l ∷ x) (gives 1 (G.literal 47) rest) in subst M (sym row_is) (by n h) where
    by : (k : ℕ) → k ≤ 0 → Means p (l ∷ stars_before k rest) (gives 1 (G.literal 47) rest)
    by zero z = slash p l rest s b a
    by (suc k) z = absurd (omega arith)

module _ (p : Left) (row rest : List Lexeme) (k : ℕ) (row_is : row ≡ stars_before k rest) where
  pub start_to_end_at : 0 < k → IsStart p → (more : List Lexeme) → rest ≡ run 2 ∷ more → Ends more → Means p row (gives 1 G.start more)
  start_to_end_at h s more e ends =
      let M : List Lexeme → Type 0 = λ x. Means p x (gives 1 G.start more) in subst M (sym (row_is ∙ ap (λ x. stars_before k x) e)) (by k h) where
        by : (k : ℕ) → 0 < k → Means p (stars_before k (run 2 ∷ more)) (gives 1 G.start more)
        by zero z = absurd (omega arith)
        by (suc n) z = start_to_end p n more s ends

  pub start_at : 0 < k → IsStart p → (BeforeSlash rest → ⊥) → (AtEnd rest → ⊥) → Means p row (gives 1 G.start rest)
  start_at h s b a = let M : List Lexeme → Type 0 = λ x. Means p x (gives 1 G.start rest) in subst M (sym row_is) (by k h) where
    by : (k : ℕ) → 0 < k → Means p (stars_before k rest) (gives 1 G.start rest)
    by zero z = absurd (omega arith)
    by (suc n) z = start p n rest s b a

  pub stars_at : k ≤ 0 → (BeforeSlash rest → ⊥) → (after : List Lexeme) (n : ℕ) → row ≡ run n ∷ after
      → ((p ≡ glob_start) × (n ≡ 2) × (after ≡ []) → ⊥) → Means p row (gives n G.star after)
  stars_at h b after n e no_alone =
      let M : List Lexeme → Type 0 = λ x. Means p x (gives n G.star after) in subst M (sym e) (stars p n after (plain p no_alone)) where
        none_before : BeforeSlash (run n ∷ after) → ⊥
        none_before x =
            let zero_times : k ≡ 0 = omega arith in
            let same : run n ∷ after ≡ rest = sym e ∙ (row_is ∙ ap (λ i. stars_before i rest) zero_times) in
            let B : List Lexeme → Type 0 = λ t. BeforeSlash t in b (subst B same x)

        plain : (q : Left) → ((q ≡ glob_start) × (n ≡ 2) × (after ≡ []) → ⊥) → IsRecursive q (run n ∷ after) → ⊥
        plain glob_start never r = elim r [ inl x ↦ none_before x | inr x ↦ never (refl, (cc x), (cc x)) ]
        plain branch_start never r = none_before r
        plain lexeme never r = r

pub alone_at : (p : Left) (row after : List Lexeme) (n : ℕ) → row ≡ run n ∷ after → p ≡ glob_start → n ≡ 2 → after ≡ []
    → Means p row (gives 1 G.start after)
alone_at p row after n e q m none =
    let row_is : row ≡ run 2 ∷ [] = cc (e, m, none) in
    let M : List Lexeme → Type 0 = λ x. Means p x (gives 1 G.start after) in
    let N : List Lexeme → Type 0 = λ x. Means p (run 2 ∷ []) (gives 1 G.start x) in
    let Q : Left → Type 0 = λ x. Means x (run 2 ∷ []) (gives 1 G.start []) in
    subst M (sym row_is) (subst N (sym none) (subst Q (sym q) alone))

pub inside_at : (p : Left) (row after : List Lexeme) (n : ℕ) → row ≡ run n ∷ after → (IsStart p → ⊥) → Means p row (gives n G.star after)
inside_at p row after n e not_start =
    let M : List Lexeme → Type 0 = λ x. Means p x (gives n G.star after) in subst M (sym e) (stars p n after (by p not_start)) where
      by : (q : Left) → (IsStart q → ⊥) → IsRecursive q (run n ∷ after) → ⊥
      by glob_start s r = s tt
      by branch_start s r = s tt
      by lexeme s r = r

pub means_at : (p : Left) (row same : List Lexeme) (m : Meaning) → row ≡ same → Means p same m → Means p row m
means_at p row same m e h = let M : List Lexeme → Type 0 = λ x. Means p x m in subst M (sym e) h
