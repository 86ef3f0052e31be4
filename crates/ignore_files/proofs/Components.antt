-- The components of a text that is split at a slash.
use Rattle.std.proofs.Common.{◌≡◌, ◌≢◌, ℕ, ◌<◌, Bool, true, false, cond, eqb, List, [], ◌∷◌, ◌++◌, length, get_or, Some, None, refl}
use Rattle.std.proofs.Common.{ap, sym, subst, ◌∙◌, arith, Bor, lit<, ◌&&◌, ◌||◌, inl, inr, ◌⊎◌}
use Rattle.std.specs.List.{onto_first}
use Rattle.std.proofs.lemmas.List.{get_or_default, length-append}
use Rattle.std.proofs.lemmas.List.Splits.{slice_split_none}
use Rattle.std.proofs.lemmas.Bool.Decides.{nat_tests}
use Rattle.std.specs.List.{list_all}
use Rattle.std.proofs.lemmas.Str.Pattern.{IsSplitOnceResult, split_parts}
use Rattle.ignore_base.specs.Paths.{but_last, components, last_component, is_proper}
use Rattle.ignore_files.specs.Memory.{is_empty, is_canonical_path}

no_slash : (b : ℕ) → b ≢ 47 → eqb b 47 ≡ false
no_slash b h = grind (arith, nat_tests)

-- a text without a slash is one component
pub components_one : (bs : List ℕ) → ((i : ℕ) → i < length bs → get_or bs i 0 ≢ 47) → components bs ≡ bs ∷ []
components_one bs h = slice_split_none (λ b. eqb b 47) bs (λ k d l. no_slash (get_or bs k d) (λ e. h k l (get_or_default bs k 0 d l ∙ e)))

-- there is a first component
pub components_some : (bs : List ℕ) → (first : List ℕ) × (rest : List (List ℕ)) × (components bs ≡ first ∷ rest)
components_some [] = ([], [], refl)
components_some (b ∷ bs) = some_first (eqb b 47) b (components bs)
  where
    onto : (b : ℕ) (ps : List (List ℕ)) → (first : List ℕ) × (rest : List (List ℕ)) × (onto_first b ps ≡ first ∷ rest)
    onto b [] = (b ∷ [], [], refl)
    onto b (p ∷ ps) = (b ∷ p, ps, refl)

    some_first : (slash : Bool) (b : ℕ) (ps : List (List ℕ))
        → (first : List ℕ) × (rest : List (List ℕ)) × (cond slash ([] ∷ ps) (onto_first b ps) ≡ first ∷ rest)
    some_first true b ps = ([], ps, refl)
    some_first false b ps = onto b ps

-- what stands round a slash is cut apart
pub components_cut : (xs ys : List ℕ) → components (xs ++ 47 ∷ ys) ≡ components xs ++ components ys
components_cut [] ys = refl
components_cut (x ∷ xs) ys =
    ap (λ ps. cond (eqb x 47) ([] ∷ ps) (onto_first x ps)) (components_cut xs ys)
    ∙ put (eqb x 47) (components_some xs)
  where
    put : (slash : Bool) → (first : List ℕ) × (rest : List (List ℕ)) × (components xs ≡ first ∷ rest)
        → cond slash ([] ∷ (components xs ++ components ys)) (onto_first x (components xs ++ components ys))
        ≡ cond slash ([] ∷ components xs) (onto_first x (components xs)) ++ components ys
    put true s = refl
    put false s = rw s.2 refl

-- what `split_once` gives at a slash
pub components_split : (bs : List ℕ) (x : Bor (List ℕ) × Bor (List ℕ)) → IsSplitOnceResult 47 bs (Some x)
    → (components bs ≡ x.0.now ∷ components x.1.now) × (length x.1.now < length bs)
components_split bs x h =
    let cut = split_parts 47 bs (Some x) h (lit< tt) in
    let one = components_one x.0.now cut.1 in (
      ap components cut.0 ∙ components_cut x.0.now x.1.now ∙ ap (λ ps. ps ++ components x.1.now) one,
      omega (arith, ap length cut.0, length-append x.0.now (47 ∷ x.1.now)),
    )

pub components_whole : (bs : List ℕ) → IsSplitOnceResult 47 bs None → components bs ≡ bs ∷ []
components_whole bs h = components_one bs (split_parts 47 bs None h (lit< tt))

-- the components but the last are none, or those of some text
abbrev pub AreNoneOrOf : List (List ℕ) → Type 0
AreNoneOrOf ps = (ps ≡ []) ⊎ ((front : List ℕ) × (ps ≡ components front))

pub but_last_components : (bs : List ℕ) → AreNoneOrOf (but_last (components bs))
but_last_components [] = inl refl
but_last_components (b ∷ bs) =
    let s = components_some bs in
    subst (λ ps. AreNoneOrOf (but_last (cond (eqb b 47) ([] ∷ ps) (onto_first b ps)))) (sym s.2)
    (onto (eqb b 47) refl s.0 s.1 s.2 (but_last_components bs))
  where
    onto : (is : Bool) → eqb b 47 ≡ is → (p : List ℕ) (ps : List (List ℕ)) → components bs ≡ p ∷ ps
        → AreNoneOrOf (but_last (components bs)) → AreNoneOrOf (but_last (cond is ([] ∷ p ∷ ps) (onto_first b (p ∷ ps))))
    onto true e p ps s (inl none) = inr ([], ap (λ qs. [] ∷ qs) (ap but_last (sym s) ∙ none))
    onto true e p ps s (inr some) =
        inr (
          b ∷ some.0,
          ap (λ qs. [] ∷ qs) (ap but_last (sym s) ∙ some.1)
              ∙ sym (ap (λ v. cond v ([] ∷ components some.0) (onto_first b (components some.0))) e),
        )
    onto false e p [] s h = inl refl
    onto false e p (q ∷ qs) s (inl none) = cc (none, ap but_last s)
    onto false e p (q ∷ qs) s (inr some) =
        inr (
          b ∷ some.0,
          ap (onto_first b) (ap but_last (sym s) ∙ some.1)
              ∙ sym (ap (λ v. cond v ([] ∷ components some.0) (onto_first b (components some.0))) e),
        )

-- whether a path is canonical, by what follows its first slash
pub canonical_none : (bs : List ℕ) → ((rest : List ℕ) → bs ≢ 47 ∷ rest) → false ≡ is_canonical_path bs
canonical_none [] h = refl
canonical_none (b ∷ rest) h =
    sym (ap (λ t. t && (is_empty rest || list_all is_proper (components rest))) (no_slash b (λ e. h rest (ap (λ c. c ∷ rest) e))))

pub canonical_rest : (bs rest : List ℕ) → bs ≡ 47 ∷ rest → eqb (length rest) 0 ≡ false
    → list_all is_proper (components rest) ≡ is_canonical_path bs
canonical_rest bs [] e h = cc
canonical_rest bs (x ∷ rest) e h = ap is_canonical_path (sym e)

pub but_last_then_last : (p : List ℕ) (ps : List (List ℕ)) → but_last (p ∷ ps) ++ last_component (p ∷ ps) ∷ [] ≡ p ∷ ps
but_last_then_last p [] = refl
but_last_then_last p (q ∷ ps) = ap (λ qs. p ∷ qs) (but_last_then_last q ps)
