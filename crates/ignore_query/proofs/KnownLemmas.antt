-- What is kept of the directories that an answer needs.
use lib.Pointwise.{pointwise}
use Rattle.std.proofs.Common.{◌≡◌, ◌≢◌, ℕ, ◌-◌, take, Bool, true, false, not, ◌&&◌, ◌||◌, cond, All, List, [], ◌∷◌, ◌++◌}
use Rattle.std.proofs.Common.{length, map, Option, Some, None, is_some, refl, sym, ◌∙◌, ap, subst, append_assoc, arith}
use Rattle.std.proofs.lemmas.Bool.{and_parts}
use Rattle.std.proofs.lemmas.List.{append-nil, length-append}
use Rattle.std.proofs.lemmas.List.Splits.{join_with_byte-slice_split, length-slice_split}
use Rattle.std.proofs.lemmas.List.Sums.{take_while-cons}
use Rattle.std.proofs.lemmas.Slice.Eq.{bytes_eq-Decides, slice_eq-Decides}
use Rattle.std.specs.List.{list_all, list_any, take_while}
use Rattle.std.specs.Str.{bytes_eq}
use Rattle.ignore_base.specs.Paths.{IsName, components, joined, last_component}
use Rattle.ignore_dir.specs.Chains.{slashed}
use Rattle.ignore_base.specs.Text.{is_slash}
use Rattle.ignore_dir.specs.declared.verdict.Verdict.TheVariants as v
use Rattle.ignore_dir.specs.Query.{ancestors, is_ignored, problem_above, rules_verdict}
use Rattle.ignore_dir.specs.Scene.{QueryScene, path_verdict}
use Rattle.ignore_query.specs.declared.kept.Cache.{Cache}
use Rattle.ignore_query.specs.declared.kept.Kept.{Kept}
use Rattle.ignore_query.specs.declared.kept.Kept.TheVariants.{Loaded}
use Rattle.ignore_query.specs.Agrees.{Agrees, IsLoaded}
use Rattle.ignore_query.specs.Listed.{kept_at}
use Rattle.ignore_query.specs.Needs.{KeepsNeeded, is_among, is_kept, is_known, needed}
use Rattle.ignore_query.specs.Reports.{new_above, new_below, not_kept, problem_in}
use Rattle.ignore_query.proofs.KeepLemmas.{Ends, ends, last, none}
use Rattle.ignore_query.proofs.ChainLemmas.{front_names, joined-slashed, loaded_front}
use Rattle.ignore_levels.specs.declared.list.Place.{Place}
use Rattle.ignore_query.proofs.NeedLemmas.{any-more, needed_way, or_same, way}
use Rattle.ignore_query.proofs.WayLemmas.{last_inj, left, left_all, left_next}

-- The key of the directory in which a path is.

pub last_named : (front : List (List ℕ)) (name : List ℕ) → last_component (front ++ name ∷ []) ≡ name
last_named [] name = refl
last_named (x ∷ []) name = refl
last_named (x ∷ (y ∷ front)) name = last_named (y ∷ front) name

pub whole_path : (path : List ℕ) (front : List (List ℕ)) (name : List ℕ) → components path ≡ front ++ name ∷ [] → path ≡ slashed front ++ name
whole_path path front name e = sym (join_with_byte-slice_split 47 path) ∙ (ap joined e ∙ joined-slashed front name)

fronts : (a b : List ℕ) → take (length a) (a ++ b) ≡ a
fronts [] [] = refl
fronts [] (y ∷ ys) = refl
fronts (x ∷ xs) b = ap (λ l. x ∷ l) (fronts xs b)

-- a text without its end
pub without_end : (path front name : List ℕ) (n : ℕ) → path ≡ front ++ name → n ≡ length name → take (length path - n) path ≡ front
without_end path front name n e k =
    let size : length path - n ≡ length front = omega (arith, ap (λ (t : List ℕ). length t) e, length-append front name, k) in
    ap (λ m. take m path) size ∙ (ap (take (length front)) e ∙ fronts front name)

-- By what is kept of the directory in which a path is.

-- what is above a kept directory is kept and not ignored
kept_front : (g : QueryScene) (c : Cache) (front : List (List ℕ)) (n : List ℕ) (rest : List (List ℕ)) (k : Kept) → Agrees g c
    → All IsName (front ++ n ∷ rest) → kept_at c (front ++ n ∷ rest) ≡ Some k → IsLoaded c front
kept_front g c front n [] k a clean h = a.inside (front ++ n ∷ []) k clean h front n refl
kept_front g c front n (m ∷ rest) k a clean h =
    let move : (front ++ n ∷ []) ++ m ∷ rest ≡ front ++ n ∷ (m ∷ rest) = append_assoc front (n ∷ []) (m ∷ rest) in
    let clean' = subst (All IsName) (sym move) clean in
    let next = kept_front g c (front ++ n ∷ []) m rest k a clean' (ap (kept_at c) move ∙ h) in
    a.inside (front ++ n ∷ []) (Loaded next.0) (front_names (front ++ n ∷ []) (m ∷ rest) clean') next.1 front n refl

no_more : (c : Cache) (b : Bool) → list_all (is_kept c) (cond b [] []) ≡ true
no_more c true = refl
no_more c false = refl

or_none : (c : Cache) (b : Bool) (w : List (List (List ℕ))) → list_all (is_kept c) w ≡ true → list_all (is_kept c) (cond b [] w) ≡ true
or_none c true w h = refl
or_none c false w h = h

way_known : (g : QueryScene) (c : Cache) (done rest : List (List ℕ)) (n : List ℕ) (k : Kept) → Agrees g c → All IsName (done ++ rest)
    → kept_at c (done ++ rest) ≡ Some k → list_all (is_kept c) (way g done (rest ++ n ∷ [])) ≡ true
way_known g c done [] n k a clean h =
    let here : is_kept c done ≡ true = ap (λ o. is_some o) (ap (kept_at c) (sym (append-nil done)) ∙ h) in
    ap (λ b. b && list_all (is_kept c) (cond (is_ignored g done) [] [])) here ∙ no_more c (is_ignored g done)
way_known g c done (m ∷ rest) n k a clean h =
    let loaded = kept_front g c done m rest k a clean h in
    let here : is_kept c done ≡ true = ap (λ o. is_some o) loaded.1 in
    let move : (done ++ m ∷ []) ++ rest ≡ done ++ m ∷ rest = append_assoc done (m ∷ []) rest in
    let next = way_known g c (done ++ m ∷ []) rest n k a (subst (All IsName) (sym move) clean) (ap (kept_at c) move ∙ h) in
    ap (λ b. b && list_all (is_kept c) (cond (is_ignored g done) [] (way g (done ++ m ∷ []) (rest ++ n ∷ [])))) here
    ∙ or_none c (is_ignored g done) (way g (done ++ m ∷ []) (rest ++ n ∷ [])) next

-- where something is kept of it, all that the answer needs is
pub parent_known : (g : QueryScene) (c : Cache) (front : List (List ℕ)) (n : List ℕ) (k : Kept) → Agrees g c → All IsName (front ++ n ∷ [])
    → kept_at c front ≡ Some k → is_known g c (front ++ n ∷ []) ≡ true
parent_known g c front n k a clean h =
    ap (list_all (is_kept c)) (needed_way g (front ++ n ∷ [])) ∙ way_known g c [] front n k a (front_names front (n ∷ []) clean) h

open_front : (g : QueryScene) (c : Cache) (done rest : List (List ℕ)) → Agrees g c → All IsName (done ++ rest) → IsLoaded c (done ++ rest)
    → list_any (is_ignored g) (ancestors done) ≡ false → list_any (is_ignored g) (ancestors (done ++ rest)) ≡ false
open_front g c done [] a clean h o = ap (λ l. list_any (is_ignored g) (ancestors l)) (append-nil done) ∙ o
open_front g c done (n ∷ rest) a clean h o =
    let move : (done ++ n ∷ []) ++ rest ≡ done ++ n ∷ rest = append_assoc done (n ∷ []) rest in
    let here = loaded_front g c done (n ∷ rest) a clean h in
    let shut = (a.right done (Loaded here.0) (front_names done (n ∷ rest) clean) here.1).0 in
    let next = any-more g done n ∙ (ap (λ b. b || is_ignored g done) o ∙ shut) in
    ap (λ l. list_any (is_ignored g) (ancestors l)) (sym move)
    ∙ open_front g c (done ++ n ∷ []) rest a (subst (All IsName) (sym move) clean) (subst (IsLoaded c) (sym move) h) next

-- where it is loaded, no directory on the way is ignored
pub parent_open : (g : QueryScene) (c : Cache) (front : List (List ℕ)) (n : List ℕ) → Agrees g c → All IsName (front ++ n ∷ []) → IsLoaded c front
    → list_any (is_ignored g) (ancestors (front ++ n ∷ [])) ≡ false
parent_open g c front n a clean h =
    let clean1 = front_names front (n ∷ []) clean in
    any-more g front n ∙ (ap (λ b. b || is_ignored g front) (open_front g c [] front a clean1 h refl)
    ∙ (a.right front (Loaded h.0) clean1 h.1).0)

-- Where all that is needed is kept, something is kept of the root, and so is what is above it.

some_kept : (o : Option Kept) → is_some o ≡ true → (k : Kept) × (o ≡ Some k)
some_kept (Some k) h = (k, refl)
some_kept None h = cc

root_known : (g : QueryScene) (c : Cache) (names : List (List ℕ)) → length names ≢ 0 → is_known g c names ≡ true → is_kept c [] ≡ true
root_known g c [] some h = absurd (some refl)
root_known g c (n ∷ names) some h =
    (and_parts (is_kept c []) (list_all (is_kept c) (cond (is_ignored g []) [] (way g (n ∷ []) names)))
    (sym (ap (list_all (is_kept c)) (needed_way g (n ∷ names))) ∙ h)).0

some_components : (path : List ℕ) → length (components path) ≢ 0
some_components path z = omega (arith, z, length-slice_split is_slash path)

pub known_above : (g : QueryScene) (c : Cache) (path : List ℕ) → Agrees g c → is_known g c (components path) ≡ true → c.has_above ≡ true
known_above g c path a h =
    let k = some_kept (kept_at c []) (root_known g c (components path) (some_components path) h) in
    a.first [] k.0 k.1

-- What the rules say by a way.

pub shut_verdict : (g : QueryScene) (names : List (List ℕ)) (is_dir : Bool) → list_any (is_ignored g) (ancestors names) ≡ true
    → v.Ignore ≡ rules_verdict g names is_dir
unfolding rules_verdict
shut_verdict g names is_dir h = sym (ap (λ b. cond b v.Ignore (path_verdict g names is_dir)) h)

pub open_verdict : (g : QueryScene) (names : List (List ℕ)) (is_dir : Bool) → list_any (is_ignored g) (ancestors names) ≡ false
    → path_verdict g names is_dir ≡ rules_verdict g names is_dir
unfolding rules_verdict
open_verdict g names is_dir h = sym (ap (λ b. cond b v.Ignore (path_verdict g names is_dir)) h)

pub last_of : (path : List ℕ) → (front : List (List ℕ)) × ((name : List ℕ) × (components path ≡ front ++ name ∷ []))
last_of path = by (ends (components path))
  where
    by : Ends (components path) → (front : List (List ℕ)) × ((name : List ℕ) × (components path ≡ front ++ name ∷ []))
    by (none e) = absurd (some_components path (ap (λ (l : List (List ℕ)). length l) e))
    by (last front name e) = (front, (name, e))

-- Where all that is needed is kept, nothing is loaded and nothing new is kept.

pub kept_among : (c : Cache) (needs : List (List (List ℕ))) (q : List (List ℕ)) → list_all (is_kept c) needs ≡ true
    → is_among needs q ≡ true → is_kept c q ≡ true
kept_among c [] q all h = absurd (cc)
kept_among c (d ∷ ds) q all h =
    let rest = kept_among c ds q (and_parts (is_kept c d) (list_all (is_kept c) ds) all).1 in
    let P : (b : Bool) → pointwise bytes_eq q d ≡ b → (b || is_among ds q) ≡ true → is_kept c q ≡ true =
    λ x. elim x as (λ b. pointwise bytes_eq q d ≡ b → (b || is_among ds q) ≡ true → is_kept c q ≡ true) [
      | true ↦ λ e k.
          ap (is_kept c) ((slice_eq-Decides bytes_eq-Decides q d (pointwise bytes_eq q d) refl).0 e)
          ∙ (and_parts (is_kept c d) (list_all (is_kept c) ds) all).0
      | false ↦ λ e k. rest k
    ] in
    P (pointwise bytes_eq q d) refl h

pub keeps_known : (g : QueryScene) (c : Cache) (names : List (List ℕ)) → c.has_above ≡ true → is_known g c names ≡ true
    → KeepsNeeded (needed g names) c c
keeps_known g c names h all = record {
  above = h;
  dirs = λ q clean. or_same (is_kept c q) (is_among (needed g names) q) (λ e. kept_among c (needed g names) q all e);
}

none_new : (g : QueryScene) (c : Cache) (front rest : List (List ℕ)) → list_all (is_kept c) (way g front rest) ≡ true
    → not_kept c (take_while (λ f. not (is_ignored g f)) (left front rest)) ≡ []
none_new g c front [] all = refl
none_new g c front (n ∷ rest) all =
    let next = left (front ++ n ∷ []) rest in
    let more = take_while (λ f. not (is_ignored g f)) next in
    let P : (b : Bool) → is_ignored g front ≡ b → not_kept c (cond (not b) (front ∷ more) []) ≡ [] =
    λ x. elim x as (λ b. is_ignored g front ≡ b → not_kept c (cond (not b) (front ∷ more) []) ≡ []) [
      | true ↦ λ e. refl
      | false ↦ λ e.
          ap (λ b. cond (not b) (front ∷ not_kept c more) (not_kept c more)) (and_parts (is_kept c front) _ all).0
          ∙ none_new g c (front ++ n ∷ []) rest (sym (ap (λ b. list_all (is_kept c) (cond b [] (way g (front ++ n ∷ []) rest))) e)
          ∙ (and_parts (is_kept c front) _ all).1)
    ] in
    ap (λ l. not_kept c (take_while (λ f. not (is_ignored g f)) l)) (left_next front n rest)
    ∙ (ap (not_kept c) (take_while-cons (λ f. not (is_ignored g f)) front next) ∙ P (is_ignored g front) refl)

pub none_below : (g : QueryScene) (c : Cache) (names : List (List ℕ)) → is_known g c names ≡ true → new_below g c names ≡ []
unfolding new_below
none_below g c names all =
    ap (λ l. map (problem_in g) (not_kept c (take_while (λ f. not (is_ignored g f)) l))) (sym (left_all names))
    ∙ ap (map (problem_in g)) (none_new g c [] names (sym (ap (list_all (is_kept c)) (needed_way g names)) ∙ all))

pub none_above : (g : QueryScene) (c : Cache) → c.has_above ≡ true → new_above g c ≡ None
none_above g c h = ap (λ b. cond b None (problem_above g)) h

-- One directory after the other.

pub next_top : (front : List (List ℕ)) (n : List ℕ) → front ++ n ∷ [] ≡ [] → ⊥
next_top [] n e = cc (e)
next_top (x ∷ xs) n e = cc (e)

pub next_inside : (c : Cache) (done front : List (List ℕ)) (m n : List ℕ) (place : Option Place) → done ++ m ∷ [] ≡ front ++ n ∷ []
    → kept_at c done ≡ Some (Loaded place) → kept_at c front ≡ Some (Loaded place)
next_inside c done front m n place e h = ap (kept_at c) (sym (last_inj done front m n e)) ∙ h
