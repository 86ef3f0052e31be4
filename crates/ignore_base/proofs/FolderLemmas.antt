-- The directory of a path, by its last slash.
use Rattle.std.proofs.Common.{◌≡◌, ℕ, zero, suc, ◌+◌, ◌<◌, ◌≤◌, Bool, true, false, ◌&&◌, eqb, List, [], ◌∷◌, ◌++◌, length, take, drop}
use Rattle.std.proofs.Common.{get_or, refl, sym, ap, ◌∙◌, cond, arith}
use Rattle.std.specs.Prelude.{codes}
use Rattle.std.proofs.lemmas.Bool.{false_from_ne_true, eqb-true}
use Rattle.std.proofs.lemmas.List.{length-take-le, length-drop, get_or-drop}
use Rattle.std.proofs.lemmas.List.Splits.{slice_split_none}
use Rattle.ignore_base.specs.Text.{is_slash}
use Rattle.ignore_base.specs.Paths.{components, joined, is_absolute, but_last, folder_of}
use Rattle.ignore_base.proofs.ComponentLemmas.{components-slash, joined-components, no_slash, cut_at}

pub but_last_push : (ps : List (List ℕ)) (p : List ℕ) → but_last (ps ++ p ∷ []) ≡ ps
but_last_push [] p = refl
but_last_push (q ∷ []) p = refl
but_last_push (q ∷ (r ∷ ps)) p = ap (λ qs. q ∷ qs) (but_last_push (r ∷ ps) p)

-- the text before the last slash
before : (path : List ℕ) (k : ℕ) → k < length path → is_slash (get_or path k 0) ≡ true
    → ((j : ℕ) → k + 1 ≤ j → j < length path → is_slash (get_or path j 0) ≡ true → ⊥) → joined (but_last (components path)) ≡ take k path
before path k l here last =
    let after = drop (k + 1) path in
    let one : components after ≡ after ∷ [] =
    slice_split_none is_slash after (no_slash after
    (λ j h e. last (k + 1 + j) (omega arith) (omega (arith, length-drop (k + 1) path, h))
    (ap is_slash (sym (get_or-drop (k + 1) path j 0)) ∙ e))) in
    ap (λ p. joined (but_last (components p))) (cut_at path k l here)
    ∙ (ap (λ ps. joined (but_last ps)) (components-slash (take k path) after ∙ ap (λ ps. components (take k path) ++ ps) one)
    ∙ (ap joined (but_last_push (components (take k path)) after) ∙ joined-components (take k path)))

chosen : (absolute : Bool) (folder : List ℕ) → absolute && eqb (length folder) 0 ≡ false
    → cond (absolute && eqb (length folder) 0) (codes "/") folder ≡ folder
chosen absolute folder h = ap (λ b. cond b (codes "/") folder) h

and_false : (b : Bool) → b && false ≡ false
and_false true = refl
and_false false = refl

pub folder_none : (path : List ℕ) → ((j : ℕ) → j < length path → is_slash (get_or path j 0) ≡ true → ⊥) → [] ≡ folder_of path
folder_none path none =
    let one : components path ≡ path ∷ [] = slice_split_none is_slash path (no_slash path none) in
    let relative : is_absolute path ≡ false = first path none in
    sym (ap (λ b. cond (b && eqb (length (joined (but_last (components path)))) 0) (codes "/")
    (joined (but_last (components path)))) relative ∙ ap (λ ps. joined (but_last ps)) one)
  where
    first : (p : List ℕ) → ((j : ℕ) → j < length p → is_slash (get_or p j 0) ≡ true → ⊥) → is_absolute p ≡ false
    first [] h = refl
    first (c ∷ p) h = false_from_ne_true _ (h 0 (omega arith))

folder_root : (path : List ℕ) → 0 < length path → is_slash (get_or path 0 0) ≡ true
    → ((j : ℕ) → 1 ≤ j → j < length path → is_slash (get_or path j 0) ≡ true → ⊥) → codes "/" ≡ folder_of path
folder_root path l here last =
    let empty : joined (but_last (components path)) ≡ [] = before path 0 l here last in
    sym (ap (λ f. cond (is_absolute path && eqb (length f) 0) (codes "/") f) empty ∙ ap (λ b. cond (b && true) (codes "/") []) here)

pub folder_at_start : (path : List ℕ) (k : ℕ) → k ≡ 0 → k < length path → is_slash (get_or path k 0) ≡ true
    → ((j : ℕ) → k + 1 ≤ j → j < length path → is_slash (get_or path j 0) ≡ true → ⊥) → codes "/" ≡ folder_of path
folder_at_start path zero e l here last = folder_root path l here last
folder_at_start path (suc k) e l here last = absurd (omega (arith, e))

pub folder_before : (path : List ℕ) (k : ℕ) → 0 < k → k < length path → is_slash (get_or path k 0) ≡ true
    → ((j : ℕ) → k + 1 ≤ j → j < length path → is_slash (get_or path j 0) ≡ true → ⊥) → take k path ≡ folder_of path
folder_before path k some l here last =
    let cut = before path k l here last in
    let filled : eqb (length (joined (but_last (components path)))) 0 ≡ false =
    ap (λ f. eqb (length f) 0) cut ∙ (ap (λ n. eqb n 0) (length-take-le k path (omega arith))
    ∙ false_from_ne_true _ (λ e. let zero = eqb-true k 0 e in omega arith)) in
    sym (chosen (is_absolute path) (joined (but_last (components path)))
    (ap (λ b. is_absolute path && b) filled ∙ and_false (is_absolute path)) ∙ cut)
