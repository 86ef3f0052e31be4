-- Components of a path: what a slash between two texts does, and the first and the last of them.
use Rattle.std.proofs.Common.{◌≡◌, ◌≢◌, ℕ, ◌+◌, ◌<◌, ◌≤◌, true, false, cond, List, [], ◌∷◌, ◌++◌, length, take, drop, get_or, refl, sym, ap}
use Rattle.std.proofs.Common.{◌∙◌, arith}
use Rattle.std.specs.List.{All, onto_first}
use Rattle.std.proofs.lemmas.List.Splits.{slice_split_none, join_with_byte-slice_split}
use Rattle.std.proofs.Common.{inl, inr, ⊎_elim, ◌⊎◌}
use Rattle.std.proofs.lemmas.Bool.{false_from_ne_true, eqb-true, cases_eq, cond-false}
use Rattle.std.proofs.lemmas.List.{drop_more, take-append-drop, get_or_default, get_or-drop, length-drop, same_from_push}
use Rattle.ignore_base.specs.Text.{is_slash}
use Rattle.ignore_base.specs.Paths.{components, joined, last_component, whole_components}

-- the first component, and the others
abbrev pub first_component : List ℕ → List ℕ
first_component [] = []
first_component (b ∷ bs) = cond (is_slash b) [] (b ∷ first_component bs)

abbrev pub others : List ℕ → List (List ℕ)
others [] = []
others (b ∷ bs) = cond (is_slash b) (components bs) (others bs)

pub components-first_component : (bs : List ℕ) → components bs ≡ first_component bs ∷ others bs
components-first_component [] = refl
components-first_component (b ∷ bs) =
    elim (is_slash b) as (λ v. cond v ([] ∷ components bs) (onto_first b (components bs))
    ≡ cond v [] (b ∷ first_component bs) ∷ cond v (components bs) (others bs)) [
      | true ↦ refl
      | false ↦ ap (onto_first b) (components-first_component bs)
    ]

-- a slash between two texts separates their components
pub components-slash : (xs ys : List ℕ) → components (xs ++ 47 ∷ ys) ≡ components xs ++ components ys
components-slash [] ys = refl
components-slash (x ∷ xs) ys =
    elim (is_slash x) as (λ v. cond v ([] ∷ components (xs ++ 47 ∷ ys)) (onto_first x (components (xs ++ 47 ∷ ys)))
    ≡ cond v ([] ∷ components xs) (onto_first x (components xs)) ++ components ys) [
      | true ↦ ap (λ l. [] ∷ l) (components-slash xs ys)
      | false ↦ ap (onto_first x) (components-slash xs ys ∙ ap (λ l. l ++ components ys) (components-first_component xs))
          ∙ sym (ap (λ l. onto_first x l ++ components ys) (components-first_component xs))
    ]

pub first_component-slash : (xs ys : List ℕ) → first_component (xs ++ 47 ∷ ys) ≡ first_component xs
first_component-slash [] ys = refl
first_component-slash (x ∷ xs) ys =
    elim (is_slash x) as (λ v. cond v [] (x ∷ first_component (xs ++ 47 ∷ ys)) ≡ cond v [] (x ∷ first_component xs)) [
      | true ↦ refl
      | false ↦ ap (λ l. x ∷ l) (first_component-slash xs ys)
    ]

pub joined-components : (bs : List ℕ) → joined (components bs) ≡ bs
joined-components bs = join_with_byte-slice_split 47 bs

pub last_component-snoc : (ps : List (List ℕ)) (p : List ℕ) → last_component (ps ++ p ∷ []) ≡ p
last_component-snoc [] p = refl
last_component-snoc (q ∷ []) p = refl
last_component-snoc (q ∷ (r ∷ ps)) p = last_component-snoc (r ∷ ps) p

pub whole_components-snoc : (ps : List (List ℕ)) → whole_components (ps ++ [] ∷ []) ≡ ps
whole_components-snoc [] = refl
whole_components-snoc (q ∷ []) = refl
whole_components-snoc (q ∷ (r ∷ ps)) = ap (λ l. q ∷ l) (whole_components-snoc (r ∷ ps))

-- where no byte is a slash
pub no_slash : (xs : List ℕ) → ((k : ℕ) → k < length xs → is_slash (get_or xs k 0) ≡ true → ⊥) → All (λ x. is_slash x ≡ false) xs
no_slash xs h = λ k d l. rw (get_or_default xs k d 0 l) (false_from_ne_true _ (h k l))

-- the last component, where the last slash is known
pub last_component-none : (xs : List ℕ) → ((k : ℕ) → k < length xs → is_slash (get_or xs k 0) ≡ true → ⊥)
    → last_component (components xs) ≡ xs
last_component-none xs h = ap last_component (slice_split_none is_slash xs (no_slash xs h))

pub cut_at : (xs : List ℕ) (k : ℕ) → k < length xs → is_slash (get_or xs k 0) ≡ true → xs ≡ take k xs ++ 47 ∷ drop (k + 1) xs
cut_at xs k l e =
    sym (take-append-drop k xs) ∙ ap (λ r. take k xs ++ r) (drop_more xs k 0 l ∙ ap (λ x. x ∷ drop (k + 1) xs) (eqb-true _ 47 e))

pub last_component-last : (xs : List ℕ) (k : ℕ) → k < length xs → is_slash (get_or xs k 0) ≡ true
    → ((j : ℕ) → k + 1 ≤ j → j < length xs → is_slash (get_or xs j 0) ≡ true → ⊥) → last_component (components xs) ≡ drop (k + 1) xs
last_component-last xs k l e after =
    let rest = drop (k + 1) xs in
    let clear : (j : ℕ) → j < length rest → is_slash (get_or rest j 0) ≡ true
    → ⊥ = λ j m s. after (k + 1 + j) (omega arith) (omega (arith, length-drop (k + 1) xs))
    (ap is_slash (sym (get_or-drop (k + 1) xs j 0)) ∙ s) in
    ap (λ t. last_component (components t)) (cut_at xs k l e)
    ∙ ap last_component (components-slash (take k xs) rest
    ∙ ap (λ l. components (take k xs) ++ l) (slice_split_none is_slash rest (no_slash rest clear)))
    ∙ last_component-snoc (components (take k xs)) rest

-- a component stays whole where more is prepended
whole_components-onto : (b : ℕ) (p : List ℕ) (ps : List (List ℕ)) → whole_components (p ∷ ps) ≡ p ∷ ps
    → whole_components (onto_first b (p ∷ ps)) ≡ onto_first b (p ∷ ps)
whole_components-onto b p [] h = refl
whole_components-onto b p (q ∷ ps) h = ap (λ l. (b ∷ p) ∷ l) (cons_tail h)
  where
    cons_tail : whole_components (p ∷ (q ∷ ps)) ≡ p ∷ (q ∷ ps) → whole_components (q ∷ ps) ≡ q ∷ ps
    cons_tail e = cc

-- where no slash ends a text that is not empty, its last component is not empty
pub whole_components-same : (xs : List ℕ) → xs ≢ [] → ((ys : List ℕ) → xs ≢ ys ++ 47 ∷ [])
    → whole_components (components xs) ≡ components xs
whole_components-same [] some open_end = absurd (some refl)
whole_components-same (x ∷ []) some open_end =
    let no : is_slash x ≡ false = false_from_ne_true _ (λ e. open_end [] (ap (λ y. y ∷ []) (eqb-true x 47 e))) in
    let is : components (x ∷ []) ≡ (x ∷ []) ∷ [] = cond-false (is_slash x) ([] ∷ ([] ∷ [])) ((x ∷ []) ∷ []) no in
    ap whole_components is ∙ sym is
whole_components-same (x ∷ (y ∷ xs)) some open_end =
    let ih : whole_components (components (y ∷ xs))
    ≡ components (y ∷ xs) = whole_components-same (y ∷ xs) (λ e. nil_cons e) (λ ys e. open_end (x ∷ ys) (ap (λ l. x ∷ l) e)) in
    let at = components-first_component (y ∷ xs) in
    let ih' : whole_components (first_component (y ∷ xs) ∷ others (y ∷ xs))
    ≡ first_component (y ∷ xs) ∷ others (y ∷ xs) = sym (ap whole_components at) ∙ ih ∙ at in
    elim (is_slash x) as (λ v. whole_components (cond v ([] ∷ components (y ∷ xs)) (onto_first x (components (y ∷ xs))))
    ≡ cond v ([] ∷ components (y ∷ xs)) (onto_first x (components (y ∷ xs)))) [
      | true ↦ ap (λ l. whole_components ([] ∷ l)) at ∙ ap (λ l. [] ∷ l) ih' ∙ sym (ap (λ l. [] ∷ l) at)
      | false ↦ ap (λ l. whole_components (onto_first x l)) at ∙ whole_components-onto x (first_component (y ∷ xs)) (others (y ∷ xs)) ih'
          ∙ sym (ap (onto_first x) at)
    ]
  where
    nil_cons : y ∷ xs ≡ [] → ⊥
    nil_cons e = cc

-- a text is empty, ends with a slash, or does neither
pub ending : (xs : List ℕ) → (xs ≡ []) ⊎ (((ys : List ℕ) × (xs ≡ ys ++ 47 ∷ [])) ⊎ ((xs ≢ []) × ((ys : List ℕ) → xs ≢ ys ++ 47 ∷ [])))
ending [] = inl refl
ending (x ∷ []) = inr (⊎_elim (λ e. inl ([], ap (λ y. y ∷ []) e)) (λ ne. inr (λ e. nil_cons e, λ ys e. ne (only ys e))) (cases_eq x 47))
  where
    nil_cons : x ∷ [] ≡ [] → ⊥
    nil_cons e = cc

    only : (ys : List ℕ) → x ∷ [] ≡ ys ++ 47 ∷ [] → x ≡ 47
    only ys e = (same_from_push [] ys x 47 e).1
ending (x ∷ (y ∷ xs)) = inr (more (ending (y ∷ xs)))
  where
    nil_cons : (z : ℕ) (zs : List ℕ) → z ∷ zs ≡ [] → ⊥
    nil_cons z zs e = cc

    tail : (ys : List ℕ) → x ∷ (y ∷ xs) ≡ ys ++ 47 ∷ [] → (zs : List ℕ) × (y ∷ xs ≡ zs ++ 47 ∷ [])
    tail [] e = absurd (cut e)
      where
        cut : x ∷ (y ∷ xs) ≡ 47 ∷ [] → ⊥
        cut e = cc
    tail (z ∷ ys) e = (ys, cc)

    more : (y ∷ xs ≡ []) ⊎ (((ys : List ℕ) × (y ∷ xs ≡ ys ++ 47 ∷ [])) ⊎ ((y ∷ xs ≢ []) × ((ys : List ℕ) → y ∷ xs ≢ ys ++ 47 ∷ [])))
        → ((ys : List ℕ) × (x ∷ (y ∷ xs) ≡ ys ++ 47 ∷ [])) ⊎ ((x ∷ (y ∷ xs) ≢ []) × ((ys : List ℕ) → x ∷ (y ∷ xs) ≢ ys ++ 47 ∷ []))
    more (inl e) = absurd (nil_cons y xs e)
    more (inr (inl w)) = inl (x ∷ w.0, ap (λ l. x ∷ l) w.1)
    more (inr (inr w)) = inr (λ e. nil_cons x (y ∷ xs) e, λ ys e. let t = tail ys e in w.1 t.0 t.1)
