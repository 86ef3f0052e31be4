-- The directory some names below `/` has these names, where they are those of a canonical path.
use Rattle.std.proofs.Common.{◌≡◌, ℕ, zero, suc, ◌<◌, Bool, true, false, cond, ◌&&◌, List, [], ◌∷◌, ◌++◌, length, take, Ok, codes, refl, sym, ap, ◌∙◌, append_assoc, arith}
use Rattle.std.proofs.lemmas.Bool.{and_parts}
use Rattle.std.proofs.lemmas.List.{append-nil}
use Rattle.std.proofs.lemmas.List.Splits.{join_with_byte-slice_split, length-slice_split}
use Rattle.std.specs.List.{list_all, onto_first}
use Rattle.ignore_base.specs.Text.{is_slash}
use Rattle.ignore_base.specs.Paths.{JoinsName, components, directory_of, has_slash, is_absolute, is_proper, join_of, joined, whole_components, without_slash}
use Rattle.ignore_dir.specs.Above.{canonical_names, path_along}
use Rattle.ignore_walk.proofs.PlaceNames.{AreNames, all_names, all_proper, components-joined, is_name, name_from, names-push, relative}

-- none of them has a slash
abbrev Clear : List (List ℕ) → Type 0
Clear [] = Unit {0}
Clear (n ∷ ns) = (has_slash n ≡ false) × Clear ns

clear-onto : (c : ℕ) (l : List (List ℕ)) → is_slash c ≡ false → Clear l → Clear (onto_first c l)
clear-onto c [] e h = (rw e refl, tt)
clear-onto c (n ∷ ns) e h = (rw (e, h.0) refl, h.1)

clear-components : (path : List ℕ) → Clear (components path)
clear-components [] = (refl, tt)
clear-components (c ∷ cs) = by (is_slash c) refl (clear-components cs)
  where
    by : (b : Bool) → is_slash c ≡ b → Clear (components cs) → Clear (cond b ([] ∷ components cs) (onto_first c (components cs)))
    by true e h = (refl, h)
    by false e h = clear-onto c (components cs) e h

names-of : (ns : List (List ℕ)) → Clear ns → list_all is_proper ns ≡ true → AreNames ns
names-of [] h k = tt
names-of (n ∷ ns) h k =
    let both = and_parts (is_proper n) (list_all is_proper ns) k in
    let own : is_name n ≡ true = rw (both.0, h.0) refl in
    (own, names-of ns h.1 both.1)

names-either : (b : Bool) (ns : List (List ℕ)) → (b ≡ true → AreNames ns) → AreNames (cond b ns [])
names-either true ns h = h refl
names-either false ns h = tt

canonical-are : (path : List ℕ) → AreNames (canonical_names (Ok path))
canonical-are path =
    let ns = components (without_slash path) in
    names-either (is_absolute path && list_all is_proper ns) ns
    (λ e. names-of ns (clear-components (without_slash path)) (and_parts (is_absolute path) (list_all is_proper ns) e).1)

names-take : (i : ℕ) (ns : List (List ℕ)) → AreNames ns → AreNames (take i ns)
names-take zero ns h = tt
names-take (suc i) [] h = tt
names-take (suc i) (n ∷ ns) h = (h.0, names-take i ns h.1)

-- below `/`

joined-front : (l : List (List ℕ)) → 0 < length l → joined ([] ∷ l) ≡ 47 ∷ joined l
joined-front [] h = absurd (omega arith)
joined-front (n ∷ l) h = refl

root-join : (x : List ℕ) → is_absolute x ≡ false → join_of (47 ∷ []) x ≡ 47 ∷ x
unfolding join_of
root-join x h =
    let some : 0 < length (components x) = omega (length-slice_split is_slash x, arith) in
    ap (λ (b : Bool). cond b x (joined (whole_components (components (47 ∷ [])) ++ components x))) h
    ∙ (joined-front (components x) some ∙ ap (λ (t : List ℕ). 47 ∷ t) (join_with_byte-slice_split 47 x))

directory-root : (ns : List (List ℕ)) → AreNames ns → canonical_names (Ok (directory_of (47 ∷ []) ns)) ≡ ns
directory-root [] h = refl
directory-root (n ∷ ns) h =
    ap (λ (p : List ℕ). canonical_names (Ok p)) (root-join (joined (n ∷ ns)) (relative n ns h.0))
    ∙ (ap (λ (l : List (List ℕ)). cond (list_all is_proper l) l []) (components-joined n ns h)
    ∙ ap (λ (b : Bool). cond b (n ∷ ns) []) (all_proper (n ∷ ns) h))

along-directory : JoinsName → (ms ns : List (List ℕ)) → AreNames ms → AreNames ns
    → path_along (directory_of (47 ∷ []) ms) ns ≡ directory_of (47 ∷ []) (ms ++ ns)
along-directory join ms [] h k = ap (directory_of (47 ∷ [])) (sym (append-nil ms))
along-directory join ms (n ∷ ns) h k =
    ap (λ (p : List ℕ). path_along p ns) (join (47 ∷ []) ms n (all_names ms h) (name_from n k.0))
    ∙ (along-directory join (ms ++ n ∷ []) ns (names-push ms n h k.0) k.1
    ∙ ap (directory_of (47 ∷ [])) (append_assoc ms (n ∷ []) ns))

-- so has each directory on the way along a canonical path
pub canonical-take : JoinsName → (path : List ℕ) (i : ℕ)
    → canonical_names (Ok (path_along (codes "/") (take i (canonical_names (Ok path))))) ≡ take i (canonical_names (Ok path))
canonical-take join path i =
    let front = take i (canonical_names (Ok path)) in
    let are = names-take i (canonical_names (Ok path)) (canonical-are path) in
    ap (λ (p : List ℕ). canonical_names (Ok p)) (along-directory join [] front tt are) ∙ directory-root front are
