-- Names, and the components of a clean path.
use Rattle.std.proofs.Common.{◌≡◌, ◌≢◌, ℕ, zero, suc, ◌==◌, ◌||◌, ◌&&◌, not, true, false, List, [], ◌∷◌, ◌++◌, length, codes, refl, sym, ap}
use Rattle.std.proofs.Common.{subst, ◌∙◌, arith, ⊎_elim, eq-eqb, eqb-true, Contains, All, Decides}
use Rattle.std.specs.Str.{bytes_eq}
use Rattle.std.specs.List.{list_all, onto_first, AllByRecursion}
use Rattle.std.proofs.lemmas.Bool.{cond-true, cond-false, cases_Bool, false_from_ne_true, both_ways, and_parts, and_from, not-true}
use Rattle.std.proofs.lemmas.Bool.{not_from_false, ne_eqb, or_cases, or_left, or_right, eqb-false}
use Rattle.std.proofs.lemmas.List.{get_or_default, nil_from_length}
use Rattle.std.proofs.lemmas.List.Splits.{slice_split_none}
use Rattle.std.proofs.lemmas.Slice.Eq.{bytes_eq-Decides}
use Rattle.ignore_base.specs.Text.{is_slash}
use Rattle.ignore_base.specs.Paths.{components, joined, has_slash, is_proper, IsName, IsCleanPath}
use Rattle.ignore_base.proofs.ComponentLemmas.{first_component, others, components-first_component, components-slash, joined-components}
use Rattle.ignore_base.proofs.PathLemmas.{has_slash-none, has_slash-at}

pub proper_parts : (component : List ℕ) → is_proper component ≡ true → (component ≢ []) × (component ≢ codes ".") × (component ≢ codes "..")
proper_parts component e =
    let a = and_parts (not (length component == 0) && not (bytes_eq component (codes "."))) (not (bytes_eq component (codes ".."))) e in
    let b = and_parts (not (length component == 0)) (not (bytes_eq component (codes "."))) a.0 in (
      λ k. both_ways _ (not-true _ b.0) (eq-eqb _ 0 (ap length k)),
      λ k. both_ways _ (not-true _ b.1) ((bytes_eq-Decides component (codes ".")).1 k),
      λ k. both_ways _ (not-true _ a.1) ((bytes_eq-Decides component (codes "..")).1 k),
    )

pub proper-name : (component : List ℕ) → IsName component → is_proper component ≡ true
proper-name component n =
    and_from _ (not (bytes_eq component (codes "..")))
    (and_from (not (length component == 0)) (not (bytes_eq component (codes ".")))
    (not_from_false _ (ne_eqb (length component) 0 (λ e. n.filled (nil_from_length component e))))
    (not_from_false _ (false_from_ne_true _ (λ e. n.no_dot ((bytes_eq-Decides component (codes ".")).0 e)))))
    (not_from_false _ (false_from_ne_true _ (λ e. n.no_dots ((bytes_eq-Decides component (codes "..")).0 e))))

pub name_from : (component : List ℕ) → is_proper component ≡ true → ¬ Contains component 47 → IsName component
name_from component e whole = let h = proper_parts component e in record { filled = h.0; whole = whole; no_dot = h.1; no_dots = h.2 }

-- a text is a name where it may be one and has no slash
pub Decides-name : (text : List ℕ) → Decides (is_proper text && not (has_slash text)) (IsName text)
Decides-name text = (
  λ e. let h =
      and_parts (is_proper text) (not (has_slash text)) e in
      name_from text h.0 (λ w. both_ways _ (not-true _ h.1)
      (has_slash-at text w.0 w.1 (eq-eqb _ 47 (get_or_default text w.0 0 47 w.1 ∙ w.2)))),
  λ n. and_from (is_proper text) (not (has_slash text)) (proper-name text n)
      (not_from_false _ (has_slash-none text (λ k l e. n.whole (k, l, get_or_default text k 47 0 l ∙ eqb-true _ 47 e)))),
)

-- no component has a slash
clear_onto : (b : ℕ) (p : List ℕ) (ps : List (List ℕ)) → is_slash b ≡ false → AllByRecursion (λ q. ¬ Contains q 47) (p ∷ ps)
    → AllByRecursion (λ q. ¬ Contains q 47) (onto_first b (p ∷ ps))
clear_onto b p ps apart h = (first, h.1)
  where
    first : ¬ Contains (b ∷ p) 47
    first (zero, l, e) = eqb-false b 47 apart e
    first (suc k, l, e) = h.0 (k, omega (arith, l), e)

pub clear : (bs : List ℕ) → AllByRecursion (λ q. ¬ Contains q 47) (components bs)
clear [] = (λ w. absurd (omega (arith, w.1)), tt)
clear (b ∷ bs) =
    ⊎_elim
    (λ e. let is : components (b ∷ bs) ≡ [] ∷ components bs = cond-true (is_slash b) ([] ∷ components bs)
    (onto_first b (components bs)) e in
    subst (AllByRecursion (λ q. ¬ Contains q 47)) (sym is) (λ w. absurd (omega (arith, w.1)), clear bs))
    (λ e.
    let is : components (b ∷ bs) ≡ onto_first b (first_component bs ∷ others bs) = cond-false (is_slash b) ([] ∷ components bs)
    (onto_first b (components bs)) e ∙ ap (onto_first b) (components-first_component bs) in
    subst (AllByRecursion (λ q. ¬ Contains q 47)) (sym is)
    (clear_onto b (first_component bs) (others bs) e
    (subst (AllByRecursion (λ q. ¬ Contains q 47)) (components-first_component bs) (clear bs))))
    (cases_Bool (is_slash b))

pub names_each : (ps : List (List ℕ)) → AllByRecursion (λ q. ¬ Contains q 47) ps → list_all is_proper ps ≡ true → All IsName ps
names_each [] h e k d l = absurd (omega (arith, l))
names_each (p ∷ ps) h e zero d l = name_from p (and_parts (is_proper p) (list_all is_proper ps) e).0 h.0
names_each (p ∷ ps) h e (suc k) d l = names_each ps h.1 (and_parts (is_proper p) (list_all is_proper ps) e).1 k d (omega (arith, l))

pub names-components : (bs : List ℕ) → list_all is_proper (components bs) ≡ true → All IsName (components bs)
names-components bs e = names_each (components bs) (clear bs) e

-- the first and the others of some names
pub first_name : (x : List ℕ) (xs : List (List ℕ)) → All IsName (x ∷ xs) → IsName x
first_name x xs h = h zero x (omega arith)

pub other_names : (x : List ℕ) (xs : List (List ℕ)) → All IsName (x ∷ xs) → All IsName xs
other_names x xs h k d l = h (suc k) d (omega (arith, l))

pub proper_each : (ps : List (List ℕ)) → All IsName ps → list_all is_proper ps ≡ true
proper_each [] h = refl
proper_each (p ∷ ps) h =
    and_from (is_proper p) (list_all is_proper ps) (proper-name p (first_name p ps h)) (proper_each ps (other_names p ps h))

pub components-whole : (x : List ℕ) → ¬ Contains x 47 → components x ≡ x ∷ []
components-whole x h =
    slice_split_none is_slash x (λ k d l. false_from_ne_true _ (λ e. h (k, l, get_or_default x k 47 d l ∙ eqb-true _ 47 e)))

-- names that are joined are its components
pub components-joined : (x : List ℕ) (xs : List (List ℕ)) → All IsName (x ∷ xs) → components (joined (x ∷ xs)) ≡ x ∷ xs
components-joined x [] h = components-whole x (first_name x [] h).whole
components-joined x (y ∷ xs) h =
    components-slash x (joined (y ∷ xs)) ∙ ap (λ l. l ++ components (joined (y ∷ xs))) (components-whole x (first_name x (y ∷ xs) h).whole)
    ∙ ap (λ l. x ∷ l) (components-joined y xs (other_names x (y ∷ xs) h))

pub Decides-clean_path : (path : List ℕ) → Decides (length path == 0 || list_all is_proper (components path)) (IsCleanPath path)
Decides-clean_path path = (there, back)
  where
    there : (length path == 0 || list_all is_proper (components path)) ≡ true → IsCleanPath path
    there e = ⊎_elim
        (λ z. ([], λ k d l. absurd (omega (arith, l)), nil_from_length path (eqb-true _ 0 z)))
        (λ h. (components path, names-components path h, sym (joined-components path)))
        (or_cases (length path == 0) (list_all is_proper (components path)) e)

    from : (names : List (List ℕ)) → All IsName names → path ≡ joined names
        → (length path == 0 || list_all is_proper (components path)) ≡ true
    from [] h e = or_left (length path == 0) (list_all is_proper (components path)) (eq-eqb _ 0 (ap length e))
    from (x ∷ xs) h e =
        or_right (length path == 0) (list_all is_proper (components path))
        (ap (list_all is_proper) (ap components e ∙ components-joined x xs h) ∙ proper_each (x ∷ xs) h)

    back : IsCleanPath path → (length path == 0 || list_all is_proper (components path)) ≡ true
    back w = from w.0 w.1 w.2
