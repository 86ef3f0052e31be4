-- Roots, the directories below them, and what is left of a path below such a directory.
use Rattle.std.proofs.Common.{◌≡◌, ◌≢◌, ℕ, zero, suc, ◌-◌, ◌==◌, ◌||◌, Bool, true, false, List, [], ◌∷◌, ◌++◌, length, drop, get_or, Some}
use Rattle.std.proofs.Common.{None, unwrap_or, nat_eq, refl, sym, ap, ◌∙◌, arith, ⊎_elim, inl, inr, ◌⊎◌, append_assoc, eq-eqb, eqb-true}
use Rattle.std.proofs.Common.{Contains}
use Rattle.std.specs.Option.{option_map}
use Rattle.std.specs.Str.{bytes_eq}
use Rattle.std.specs.List.{list_all, starts_with}
use Rattle.std.proofs.lemmas.Bool.{cond-true, cond-false, cases_Bool, false_from_ne_true, and_left, or_from, or_right, or_left, ne_eqb}
use Rattle.std.proofs.lemmas.Bool.Decides.{Decides-eqb}
use Rattle.std.proofs.lemmas.List.{append-nil, get_or_at, length-append, same_from_push}
use Rattle.std.proofs.lemmas.Slice.Eq.{starts_is, bytes_eq-Decides}
use Rattle.ignore_base.specs.Paths.{components, joined, is_absolute, at_bound, trim_of, without_slash, has_slash, is_dot, below, strip_of}
use Rattle.ignore_base.specs.Paths.{join_of, IsName, IsCleanRoot, dot, dot_slash, slash, named, above, StripsDirectories}
use Rattle.ignore_base.proofs.ComponentLemmas.{first_component, others, components-first_component, first_component-slash, ending}
use Rattle.ignore_base.proofs.FirstComponentLemmas.{first_component-joined, first_component-absolute, joined-append}
use Rattle.ignore_base.proofs.JoinLemmas.{join_of-closed, join_of-open}
use Rattle.ignore_base.proofs.PathLemmas.{strip_prefix_of-at, has_slash-inside, below-dot, below-flat, below-deep}

-- its first component isn't `.`
abbrev pub Stands : List ℕ → Type 0
Stands path = first_component path ≢ 46 ∷ []

pub trim_of-stands : (xs : List ℕ) → Stands xs → trim_of xs ≡ xs
trim_of-stands xs h =
    cond-false (starts_with nat_eq xs (46 ∷ (47 ∷ []))) (drop 2 xs) xs
    (false_from_ne_true _ (λ e. h (dotted ((starts_is Decides-eqb xs (46 ∷ (47 ∷ [])) _ refl).0 e))))
  where
    dotted : xs ≡ (46 ∷ (47 ∷ [])) ++ drop 2 xs → first_component xs ≡ 46 ∷ []
    dotted e = ap first_component e

abbrev idle : List ℕ → Bool
idle component = bytes_eq component (46 ∷ []) || length component == 0

is_dot-at : (xs : List ℕ) → Stands (46 ∷ xs) → is_dot (46 ∷ xs) ≡ false
is_dot-at xs h =
    let no : idle (46 ∷ first_component xs) ≡ false = or_from (bytes_eq (46 ∷ first_component xs) (46 ∷ []))
    (length (46 ∷ first_component xs) == 0) (false_from_ne_true _ (λ e. h ((bytes_eq-Decides (46 ∷ first_component xs) (46 ∷ [])).0 e)))
    (ne_eqb (length (46 ∷ first_component xs)) 0 (λ e. absurd (omega (arith, e)))) in
    ap (list_all idle) (components-first_component (46 ∷ xs)) ∙ and_left (idle (46 ∷ first_component xs)) (list_all idle (others xs)) no

pub is_dot-stands : (xs : List ℕ) → Stands xs → is_dot xs ≡ false
is_dot-stands [] h = refl
is_dot-stands (x ∷ xs) h =
    ⊎_elim
    (λ e. let same : x ∷ xs ≡ 46 ∷ xs = ap (λ y. y ∷ xs) (eqb-true x 46 e) in
    ap is_dot same ∙ is_dot-at xs (λ k. h (ap first_component same ∙ k)))
    (λ e. and_left (x == 46) (list_all idle (components (x ∷ xs))) e)
    (cases_Bool (x == 46))

without_slash-relative : (q : List ℕ) → is_absolute q ≡ false → without_slash q ≡ q
without_slash-relative q e = cond-false (is_absolute q) (drop 1 q) q e

-- a root, a slash and a path
below-open : (root q : List ℕ) → Stands root → below root (root ++ 47 ∷ q) ≡ q
below-open root q h =
    let at : at_bound root (47 ∷ q) ≡ true = or_right _ (is_absolute (47 ∷ q)) refl in
    below-deep root (root ++ 47 ∷ q) (is_dot-stands root h) (has_slash-inside root q)
    ∙ ap (λ o. unwrap_or (option_map without_slash o) (root ++ 47 ∷ q))
    (strip_prefix_of-at root (root ++ 47 ∷ q) (47 ∷ q) refl ∙ cond-true (at_bound root (47 ∷ q)) (Some (47 ∷ q)) None at)

-- a root that ends with a slash, and a path
below-closed : (t q : List ℕ) → Stands (t ++ 47 ∷ []) → is_absolute q ≡ false → below (t ++ 47 ∷ []) ((t ++ 47 ∷ []) ++ q) ≡ q
below-closed t q h e =
    let root = t ++ 47 ∷ [] in
    let last : length root - 1 ≡ length t = omega (arith, length-append t (47 ∷ [])) in
    let ends : (get_or root (length root - 1) 0 == 47) ≡ true = eq-eqb _ 47 (get_or_at t 47 [] 0 (length root - 1) (sym last)) in
    let at : at_bound root q ≡ true = or_left _ (is_absolute q) (or_left _ (length q == 0) (or_right (length root == 0) _ ends)) in
    below-deep root (root ++ q) (is_dot-stands root h) (ap has_slash (append_assoc t (47 ∷ []) q) ∙ has_slash-inside t q)
    ∙ ap (λ o. unwrap_or (option_map without_slash o) (root ++ q))
    (strip_prefix_of-at root (root ++ q) q refl ∙ cond-true (at_bound root q) (Some q) None at)
    ∙ without_slash-relative q e

-- the empty root
below-nil : (q : List ℕ) → is_absolute q ≡ false → below [] q ≡ q
below-nil q e =
    ⊎_elim
    (λ f. below-deep [] q refl f ∙ ap (λ o. unwrap_or (option_map without_slash o) q) (strip_prefix_of-at [] q q refl)
    ∙ without_slash-relative q e)
    (λ f. below-flat [] q f)
    (cases_Bool (has_slash q))

-- with one leading `./`, or none, its first component isn't `.`
abbrev Trims : List ℕ → Type 0
Trims path = Stands path ⊎ ((u : List ℕ) × (path ≡ 46 ∷ (47 ∷ u)) × Stands u)

strips : (root q : List ℕ) → Trims root → strip_of (trim_of root) (root ++ 47 ∷ q) ≡ q
strips root q (inl h) =
    ap (λ r. strip_of r (root ++ 47 ∷ q)) (trim_of-stands root h)
    ∙ ap (below root) (trim_of-stands (root ++ 47 ∷ q) (λ e. h (sym (first_component-slash root q) ∙ e)))
    ∙ below-open root q h
strips root q (inr w) = ap (λ r. strip_of (trim_of r) (r ++ 47 ∷ q)) w.1 ∙ below-open w.0 q w.2

-- a slash stands between a root and what is joined to it: one that the root ends with, or a new one
pub leads : (root : List ℕ) → root ≢ [] → (t : List ℕ) × ((root ≡ t ++ 47 ∷ []) ⊎ (root ≡ t))
    × ((q : List ℕ) → is_absolute q ≡ false → join_of root q ≡ t ++ 47 ∷ q)
leads root some = go (ending root)
  where
    go : (root ≡ []) ⊎ (((ys : List ℕ) × (root ≡ ys ++ 47 ∷ [])) ⊎ ((root ≢ []) × ((ys : List ℕ) → root ≢ ys ++ 47 ∷ [])))
        → (t : List ℕ) × ((root ≡ t ++ 47 ∷ []) ⊎ (root ≡ t)) × ((q : List ℕ) → is_absolute q ≡ false → join_of root q ≡ t ++ 47 ∷ q)
    go (inl e) = absurd (some e)
    go (inr (inl w)) = (w.0, inl w.1, λ q e. ap (λ r. join_of r q) w.1 ∙ join_of-closed w.0 q e ∙ append_assoc w.0 (47 ∷ []) q)
    go (inr (inr w)) = (root, inr refl, λ q e. join_of-open root q e w.0 w.1)

pub cons_nil : (x : ℕ) (xs : List ℕ) → x ∷ xs ≡ [] → ⊥
cons_nil x xs e = cc

dot_alone : (ys : List ℕ) → ◌≡◌ {A = List ℕ} (46 ∷ []) (ys ++ 47 ∷ []) → ⊥
dot_alone ys e = absurd (omega (arith, (same_from_push [] ys 46 47 e).1))

-- what precedes a final slash, after `./`
tail_ends : (u t : List ℕ) → 46 ∷ (47 ∷ u) ≡ t ++ 47 ∷ [] → (u ≡ []) ⊎ ((v : List ℕ) × (u ≡ v ++ 47 ∷ []))
tail_ends u [] e = absurd (cut e)
  where
    cut : ◌≡◌ {A = List ℕ} (46 ∷ (47 ∷ u)) (47 ∷ []) → ⊥
    cut k = cc
tail_ends u (a ∷ []) e = inl cc
tail_ends u (a ∷ (b ∷ ys)) e = inr (ys, cc)

-- the root itself, where it ends with a slash
closed_root : (root q t : List ℕ) → root ≡ t ++ 47 ∷ [] → Trims root → is_absolute q ≡ false → strip_of (trim_of root) (root ++ q) ≡ q
closed_root root q t e (inl s) rel =
    ap (λ r. strip_of r (root ++ q)) (trim_of-stands root s)
    ∙ ap (below root) (trim_of-stands (root ++ q) (λ k. s
    (ap first_component e ∙ first_component-slash t [] ∙ sym (first_component-slash t q)
    ∙ ap first_component (sym (append_assoc t (47 ∷ []) q) ∙ ap (λ r. r ++ q) (sym e)) ∙ k)))
    ∙ ap (λ r. below r (r ++ q)) e
    ∙ below-closed t q (λ k. s (ap first_component e ∙ k)) rel
closed_root root q t e (inr w) rel =
    ap (λ r. strip_of (trim_of r) (r ++ q)) w.1
    ∙ ⊎_elim
    (λ none. ap (λ u. below u (u ++ q)) none ∙ below-nil q rel)
    (λ v. ap (λ u. below u (u ++ q)) v.1 ∙ below-closed v.0 q (λ k. w.2 (ap first_component v.1 ∙ k)) rel)
    (tail_ends w.0 t (sym w.1 ∙ e))

-- the root itself
at_root : (root q : List ℕ) → root ≢ [] → (root ≡ 46 ∷ []) ⊎ Trims root → is_absolute q ≡ false
    → strip_of (trim_of root) (join_of root q) ≡ q
at_root root q some (inl e) rel =
    ap (λ r. strip_of (trim_of r) (join_of r q)) e
    ∙ ap (strip_of (46 ∷ [])) (join_of-open (46 ∷ []) q rel (λ k. cons_nil 46 [] k) dot_alone)
    ∙ below-dot (46 ∷ []) q refl
at_root root q some (inr h) rel = let w = leads root some in go w.0 w.1 w.2
  where
    go : (t : List ℕ) → (root ≡ t ++ 47 ∷ []) ⊎ (root ≡ t) → ((p : List ℕ) → is_absolute p ≡ false → join_of root p ≡ t ++ 47 ∷ p)
        → strip_of (trim_of root) (join_of root q) ≡ q
    go t (inl e) at =
        ap (strip_of (trim_of root)) (at q rel ∙ sym (append_assoc t (47 ∷ []) q) ∙ ap (λ r. r ++ q) (sym e)) ∙ closed_root root q t e h rel
    go t (inr e) at = ap (strip_of (trim_of root)) (at q rel ∙ ap (λ r. r ++ 47 ∷ q) (sym e)) ∙ strips root q h

-- a directory below a root is again such a text
trims_below : (root t d : List ℕ) → (root ≡ t ++ 47 ∷ []) ⊎ (root ≡ t) → (root ≡ 46 ∷ []) ⊎ Trims root → Stands d → Trims (t ++ 47 ∷ d)
trims_below root t d (inl e) (inl k) stands = absurd (dot_alone t (sym k ∙ e))
trims_below root t d (inr e) (inl k) stands = inr (d, ap (λ r. r ++ 47 ∷ d) (sym e ∙ k), stands)
trims_below root t d (inl e) (inr (inl s)) stands =
    inl (λ k. s (ap first_component e ∙ first_component-slash t [] ∙ sym (first_component-slash t d) ∙ k))
trims_below root t d (inr e) (inr (inl s)) stands = inl (λ k. s (ap first_component e ∙ sym (first_component-slash t d) ∙ k))
trims_below root t d (inr e) (inr (inr w)) stands =
    inr (w.0 ++ 47 ∷ d, ap (λ r. r ++ 47 ∷ d) (sym e ∙ w.1), λ k. w.2 (sym (first_component-slash w.0 d) ∙ k))
trims_below root t d (inl e) (inr (inr w)) stands = inr (
  w.0 ++ d,
  sym (append_assoc t (47 ∷ []) d) ∙ ap (λ r. r ++ d) (sym e ∙ w.1),
  ⊎_elim
      (λ none k. stands (ap (λ u. first_component (u ++ d)) (sym none) ∙ k))
      (λ v k. w.2 (ap first_component v.1 ∙ first_component-slash v.0 [] ∙ sym (first_component-slash v.0 d)
      ∙ ap first_component (sym (append_assoc v.0 (47 ∷ []) d) ∙ ap (λ u. u ++ d) (sym v.1)) ∙ k))
      (tail_ends w.0 t (sym w.1 ∙ e)),
)

-- a directory below it
in_directory : (root d q : List ℕ) → root ≢ [] → (root ≡ 46 ∷ []) ⊎ Trims root → is_absolute d ≡ false → is_absolute (d ++ 47 ∷ q) ≡ false
    → Stands d → strip_of (trim_of (join_of root d)) (join_of root (d ++ 47 ∷ q)) ≡ q
in_directory root d q some kind rel rel_more stands =
    let w = leads root some in
    let X = w.0 ++ 47 ∷ d in
    let path : join_of root (d ++ 47 ∷ q) ≡ X ++ 47 ∷ q = w.2 (d ++ 47 ∷ q) rel_more ∙ sym (append_assoc w.0 (47 ∷ d) (47 ∷ q)) in
    ap (λ r. strip_of (trim_of r) (join_of root (d ++ 47 ∷ q))) (w.2 d rel)
    ∙ ap (strip_of (trim_of X)) path
    ∙ strips X q (trims_below root w.0 d w.1 kind stands)

-- names that are joined
first_component-names : (name : List ℕ) (names : List (List ℕ)) → IsName name → first_component (joined (name ∷ names)) ≡ name
first_component-names name names n =
    sym (ap first_component (append-nil (joined (name ∷ names)))) ∙ first_component-joined name names [] n.whole (inl refl)

relative : (name : List ℕ) (names : List (List ℕ)) → IsName name → is_absolute (joined (name ∷ names)) ≡ false
relative name names n =
    false_from_ne_true _ (λ e. n.filled (sym (first_component-names name names n) ∙ first_component-absolute (joined (name ∷ names)) e))

pub ups_whole : ¬ Contains {X = ℕ} (46 ∷ (46 ∷ [])) 47
ups_whole (zero, l, e) = absurd (omega (arith, e))
ups_whole (suc zero, l, e) = absurd (omega (arith, e))
ups_whole (suc (suc k), l, e) = absurd (omega (arith, l))

nil_dot : ◌≡◌ {A = List ℕ} [] (46 ∷ []) → ⊥
nil_dot e = cc

two_one : ◌≡◌ {A = List ℕ} (46 ∷ (46 ∷ [])) (46 ∷ []) → ⊥
two_one e = cc

kind_of : (root : List ℕ) → IsCleanRoot root → (root ≡ 46 ∷ []) ⊎ Trims root
kind_of root (dot e) = inl e
kind_of root (dot_slash e) = inr (inr ([], e, nil_dot))
kind_of root (slash e) = inr (inl (λ k. nil_dot (sym (ap first_component e) ∙ k)))
kind_of root (named lead name names end (inl z) n ns e at minus) =
    inr (inl (λ k. n.no_dot (sym (ap first_component (at ∙ ap (λ l. l ++ (joined (name ∷ names) ++ end)) z)
    ∙ first_component-joined name names end n.whole e) ∙ k)))
kind_of root (named lead name names end (inr (inl z)) n ns e at minus) =
    inr (inl (λ k. nil_dot (sym (ap first_component (at ∙ ap (λ l. l ++ (joined (name ∷ names) ++ end)) z)) ∙ k)))
kind_of root (named lead name names end (inr (inr z)) n ns e at minus) =
    inr (inr (
      joined (name ∷ names) ++ end,
      at ∙ ap (λ l. l ++ (joined (name ∷ names) ++ end)) z,
      λ k. n.no_dot (sym (first_component-joined name names end n.whole e) ∙ k),
    ))
kind_of root (above ups names end us ns e at) =
    inr (inl (λ k. two_one (sym (ap first_component at ∙ first_component-joined (46 ∷ (46 ∷ [])) (ups ++ names) end ups_whole e) ∙ k)))

filled_root : (root : List ℕ) → IsCleanRoot root → root ≢ []
filled_root root (dot e) z = cons_nil 46 [] (sym e ∙ z)
filled_root root (dot_slash e) z = cons_nil 46 (47 ∷ []) (sym e ∙ z)
filled_root root (slash e) z = cons_nil 47 [] (sym e ∙ z)
filled_root root (named lead name names end (inl y) n ns e at minus) z =
    n.filled (sym (first_component-joined name names end n.whole e)
    ∙ ap first_component (sym (at ∙ ap (λ l. l ++ (joined (name ∷ names) ++ end)) y) ∙ z))
filled_root root (named lead name names end (inr (inl y)) n ns e at minus) z =
    cons_nil 47 (joined (name ∷ names) ++ end) (sym (at ∙ ap (λ l. l ++ (joined (name ∷ names) ++ end)) y) ∙ z)
filled_root root (named lead name names end (inr (inr y)) n ns e at minus) z =
    cons_nil 46 (47 ∷ (joined (name ∷ names) ++ end)) (sym (at ∙ ap (λ l. l ++ (joined (name ∷ names) ++ end)) y) ∙ z)
filled_root root (above ups names end us ns e at) z =
    cons_nil 46 (46 ∷ []) (sym (first_component-joined (46 ∷ (46 ∷ [])) (ups ++ names) end ups_whole e) ∙ ap first_component (sym at ∙ z))

pub strips_directories : StripsDirectories
strips_directories root [] name more clean above_names n below_names =
    at_root root (joined (name ∷ more)) (filled_root root clean) (kind_of root clean) (relative name more n)
strips_directories root (d ∷ ds) name more clean above_names n below_names =
    let first : IsName d = above_names 0 d (omega arith) in
    let together = joined-append d ds name more in
    let rel_more : is_absolute (joined (d ∷ ds) ++ 47 ∷ joined (name ∷ more)) ≡ false = ap is_absolute (sym together)
    ∙ relative d (ds ++ (name ∷ more)) first in
    ap (λ p. strip_of (trim_of (join_of root (joined (d ∷ ds)))) (join_of root p)) together
    ∙ in_directory root (joined (d ∷ ds)) (joined (name ∷ more)) (filled_root root clean) (kind_of root clean)
    (relative d ds first) rel_more (λ k. first.no_dot (sym (first_component-names d ds first) ∙ k))
