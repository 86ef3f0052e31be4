-- Names joined to a directory below a root, and the offset at which they begin.
use Rattle.std.proofs.Common.{◌≡◌, ◌≢◌, ℕ, ◌+◌, ◌-◌, ◌==◌, ◌||◌, true, false, List, [], ◌∷◌, ◌++◌, length, take, drop, All, Contains, refl}
use Rattle.std.proofs.Common.{sym, ap, ◌∙◌, append_assoc, arith, eqb, subst, ⊎_elim, eq-eqb, eqb-true}
use Rattle.std.specs.List.{AllByRecursion}
use Rattle.std.proofs.lemmas.Bool.{cond-true, cond-false, false_from_ne_true, or_right, or_from, ne_eqb}
use Rattle.std.proofs.lemmas.List.{append-nil, drop_at, get_or_at, length-append, nil_from_length}
use Rattle.std.proofs.Math.Seq.{drop-length}
use Rattle.ignore_base.specs.Paths.{components, joined, whole_components, filled, is_absolute, ends_with_slash, join_of, directory_of}
use Rattle.ignore_base.specs.Paths.{offset_below, IsName, JoinsName, JoinsNames, LeavesThePath, StripsByOffset}
use Rattle.ignore_base.proofs.CleanLemmas.{clear, first_name, other_names, components-whole}
use Rattle.ignore_base.proofs.ComponentLemmas.{components-slash, cut_at, ending}
use Rattle.ignore_base.proofs.JoinLemmas.{relative, join_of-nil, join_of-closed, join_of-open}
use Rattle.ignore_base.proofs.RootLemmas.{strips_directories}

-- no component has a slash
abbrev pub Whole : List (List ℕ) → Type 0
Whole [] = Unit {0}
Whole (p ∷ ps) = (Contains {X = ℕ} p 47 → ⊥) × Whole ps

pub from_clear : (ps : List (List ℕ)) → AllByRecursion (λ q. ¬ Contains {X = ℕ} q 47) ps → Whole ps
from_clear [] h = tt
from_clear (p ∷ ps) h = (h.0, from_clear ps h.1)

whole_names : (ns : List (List ℕ)) → All IsName ns → Whole ns
whole_names [] h = tt
whole_names (n ∷ ns) h = ((first_name n ns h).whole, whole_names ns (other_names n ns h))

whole_append : (ps qs : List (List ℕ)) → Whole ps → Whole qs → Whole (ps ++ qs)
whole_append [] qs h k = k
whole_append (p ∷ ps) qs h k = (h.0, whole_append ps qs h.1 k)

pub whole_front : (ps : List (List ℕ)) → Whole ps → Whole (whole_components ps)
whole_front [] h = tt
whole_front ([] ∷ []) h = tt
whole_front ((b ∷ bs) ∷ []) h = (h.0, tt)
whole_front (p ∷ (q ∷ ps)) h = (h.0, whole_front (q ∷ ps) h.1)

components-back : (p : List ℕ) (ps : List (List ℕ)) → Whole (p ∷ ps) → components (joined (p ∷ ps)) ≡ p ∷ ps
components-back p [] h = components-whole p h.0
components-back p (q ∷ ps) h =
    components-slash p (joined (q ∷ ps)) ∙ ap (λ l. l ++ components (joined (q ∷ ps))) (components-whole p h.0)
    ∙ ap (λ l. p ∷ l) (components-back q ps h.1)

filled-name : (n : List ℕ) → n ≢ [] → filled n ≡ n ∷ []
filled-name [] h = absurd (h refl)
filled-name (b ∷ bs) h = refl

whole_components-names : (n : List ℕ) (ns : List (List ℕ)) → All IsName (n ∷ ns) → whole_components (n ∷ ns) ≡ n ∷ ns
whole_components-names n [] h = filled-name n (first_name n [] h).filled
whole_components-names n (m ∷ ns) h = ap (λ l. n ∷ l) (whole_components-names m ns (other_names n (m ∷ ns) h))

whole_components-append : (ws : List (List ℕ)) (n : List ℕ) (ns : List (List ℕ)) → All IsName (n ∷ ns)
    → whole_components (ws ++ n ∷ ns) ≡ ws ++ n ∷ ns
whole_components-append [] n ns h = whole_components-names n ns h
whole_components-append (w ∷ []) n ns h = ap (λ l. w ∷ l) (whole_components-names n ns h)
whole_components-append (w ∷ (v ∷ ws)) n ns h = ap (λ l. w ∷ l) (whole_components-append (v ∷ ws) n ns h)

-- components before names, joined and split again
pub components-before : (ws : List (List ℕ)) (n : List ℕ) (ns : List (List ℕ)) → Whole ws → Whole (n ∷ ns)
    → components (joined (ws ++ n ∷ ns)) ≡ ws ++ n ∷ ns
components-before [] n ns h k = components-back n ns k
components-before (w ∷ ws) n ns h k = components-back w (ws ++ n ∷ ns) (h.0, whole_append ws (n ∷ ns) h.1 k)

relative-name : (n : List ℕ) (text : List ℕ) → IsName n → is_absolute (n ++ text) ≡ false
relative-name [] text h = absurd (h.filled refl)
relative-name (c ∷ cs) text h = false_from_ne_true (eqb c 47) (λ e. h.whole (0, omega arith, eqb-true c 47 e))

pub relative-names : (n : List ℕ) (ns : List (List ℕ)) → IsName n → is_absolute (joined (n ∷ ns)) ≡ false
relative-names n [] h = subst (λ t. is_absolute t ≡ false) (append-nil n) (relative-name n [] h)
relative-names n (m ∷ ns) h = relative-name n (47 ∷ joined (m ∷ ns)) h

step : (root n : List ℕ) (ns : List (List ℕ)) (m : List ℕ) (ms : List (List ℕ)) → All IsName (n ∷ ns) → IsName m → All IsName ms
    → join_of (join_of root (joined (n ∷ ns))) (joined (m ∷ ms)) ≡ join_of root (joined ((n ∷ ns) ++ m ∷ ms))
step root n ns m ms are is more =
    let ws = whole_components (components root) in
    let whole : Whole (n ∷ ns) = whole_names (n ∷ ns) are in
    let last : Whole (m ∷ ms) = (is.whole, whole_names ms more) in
    let clear_root : Whole ws = whole_front (components root) (from_clear (components root) (clear root)) in
    let names : components (joined (n ∷ ns)) ≡ n ∷ ns = components-back n ns whole in
    let all : components (joined ((n ∷ ns) ++ m ∷ ms)) ≡ (n ∷ ns) ++ m ∷ ms = components-back n (ns ++ m ∷ ms)
    (whole_append (n ∷ ns) (m ∷ ms) whole last) in
    let outer : join_of root (joined (n ∷ ns)) ≡ joined (ws ++ n ∷ ns) = relative root (joined (n ∷ ns))
    (relative-names n ns (first_name n ns are)) ∙ ap (λ l. joined (ws ++ l)) names in
    let cut : whole_components (components (joined (ws ++ n ∷ ns)))
    ≡ ws ++ n ∷ ns = ap whole_components (components-before ws n ns clear_root whole) ∙ whole_components-append ws n ns are in
    ap (λ t. join_of t (joined (m ∷ ms))) outer
    ∙ relative (joined (ws ++ n ∷ ns)) (joined (m ∷ ms)) (relative-names m ms is)
    ∙ ap (λ l. joined (l ++ components (joined (m ∷ ms)))) cut
    ∙ ap (λ l. joined ((ws ++ n ∷ ns) ++ l)) (components-back m ms last)
    ∙ ap joined (append_assoc ws (n ∷ ns) (m ∷ ms))
    ∙ ap (λ l. joined (ws ++ l)) (sym all)
    ∙ sym (relative root (joined ((n ∷ ns) ++ m ∷ ms)) (relative-names n (ns ++ m ∷ ms) (first_name n ns are)))

pub joins_names : JoinsNames
joins_names root [] name more are is rest = refl
joins_names root (n ∷ ns) name more are is rest = step root n ns name more are is rest

no_names : All IsName []
no_names k d l = absurd (omega (arith, l))

pub joins_name : JoinsName
joins_name root [] name are is = refl
joins_name root (n ∷ ns) name are is = step root n ns name [] are is no_names

-- the offset of a directory that ends with a slash, and of one that doesn't
closed_offset : (t : List ℕ) → offset_below (t ++ 47 ∷ []) ≡ length (t ++ 47 ∷ [])
closed_offset t =
    let dir = t ++ 47 ∷ [] in
    let last : length dir - 1 ≡ length t = omega (arith, length-append t (47 ∷ [])) in
    let ends : ends_with_slash dir ≡ true = eq-eqb _ 47 (get_or_at t 47 [] 0 (length dir - 1) (sym last)) in
    cond-true (length dir == 0 || ends_with_slash dir) (length dir) (length dir + 1) (or_right (length dir == 0) (ends_with_slash dir) ends)

open_end : (dir : List ℕ) → dir ≢ [] → ((t : List ℕ) → dir ≢ t ++ 47 ∷ []) → ends_with_slash dir ≡ false
open_end [] some other = absurd (some refl)
open_end (c ∷ cs) some other =
    let dir = c ∷ cs in
    let last : (length dir - 1) + 1 ≡ length dir = omega arith in
    false_from_ne_true _
    (λ e. other (take (length dir - 1) dir)
    (cut_at dir (length dir - 1) (omega arith) e
    ∙ ap (λ r. take (length dir - 1) dir ++ 47 ∷ r) (ap (λ k. drop k dir) last ∙ drop-length dir)))

open_offset : (dir : List ℕ) → dir ≢ [] → ((t : List ℕ) → dir ≢ t ++ 47 ∷ []) → offset_below dir ≡ length dir + 1
open_offset dir some other =
    cond-false (length dir == 0 || ends_with_slash dir) (length dir) (length dir + 1)
    (or_from (length dir == 0) (ends_with_slash dir) (ne_eqb (length dir) 0 (λ e. some (nil_from_length dir e))) (open_end dir some other))

pub leaves_the_path : LeavesThePath
leaves_the_path dir path e =
    ⊎_elim
    (λ (none : dir ≡ []). ap (λ d. drop (offset_below d) (join_of d path)) none ∙ join_of-nil path)
    (⊎_elim
    (λ (w : (t : List ℕ) × (dir ≡ t ++ 47 ∷ [])).
    ap (λ d. drop (offset_below d) (join_of d path)) w.1
    ∙ ap (λ k. drop k (join_of (w.0 ++ 47 ∷ []) path)) (closed_offset w.0)
    ∙ ap (drop (length (w.0 ++ 47 ∷ []))) (join_of-closed w.0 path e)
    ∙ drop_at (w.0 ++ 47 ∷ []) path (length (w.0 ++ 47 ∷ [])) refl)
    (λ (w : (dir ≢ []) × ((t : List ℕ) → dir ≢ t ++ 47 ∷ [])).
    ap (λ k. drop k (join_of dir path)) (open_offset dir w.0 w.1)
    ∙ ap (drop (length dir + 1)) (join_of-open dir path e w.0 w.1 ∙ sym (append_assoc dir (47 ∷ []) path))
    ∙ drop_at (dir ++ 47 ∷ []) path (length dir + 1) (length-append dir (47 ∷ []))))
    (ending dir)

pub strips_by_offset : StripsByOffset
strips_by_offset root names name more clean are is rest =
    let path = join_of root (joined (names ++ (name ∷ more))) in
    let dir = directory_of root names in
    strips_directories root names name more clean are is rest
    ∙ sym (leaves_the_path dir (joined (name ∷ more)) (relative-names name more is))
    ∙ ap (drop (offset_below dir)) (joins_names root names name more are is rest)
