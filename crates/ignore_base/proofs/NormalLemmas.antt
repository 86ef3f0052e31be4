-- Where the components of paths lead, and what is joined to a root.
use Rattle.std.proofs.Common.{◌≡◌, ◌≢◌, ◌==◌, ◌||◌, ◌-◌, ◌+◌, ℕ, Bool, true, false, cond, List, [], ◌∷◌, ◌++◌, length, take, drop, map, Bor}
use Rattle.std.proofs.Common.{Option, Some, None, MatchOption, refl, sym, ap, ◌∙◌, append_assoc, arith, eq-eqb, All, Contains, ⊎_elim, ◌⊎◌, subst}
use Rattle.std.specs.List.{starts_with, AllByRecursion}
use Rattle.std.specs.Option.{option_and_then, option_map, option_to_list}
use Rattle.std.specs.Str.{bytes_eq}
use Rattle.std.proofs.lemmas.Bool.{cond-true, cond-false, cases_Bool, both_ways, false_from_ne_true, ne_eqb, or_from, or_parts}
use Rattle.std.proofs.lemmas.List.{append-nil, drop-map, drop_at, length-append, length-map, map-append, take-map, nil_from_length}
use Rattle.std.proofs.lemmas.List.Elements.{All-drop, All-cons, All-nil, All-push}
use Rattle.std.proofs.lemmas.Slice.Eq.{starts_is, bytes_eq-Decides}
use Rattle.std.specs.Cmp.Derive.Mapped.{pointwise-map}
use lib.Pointwise.{pointwise}
use Rattle.ignore_base.specs.Paths.{components, joined, whole_components, but_last, is_absolute, join_of, IsName, IsCleanPath}
use Rattle.ignore_base.specs.Normalize.{step, steps, full_path, names_from_root, rest_below, normalize_of, IsKnown, NormalizesJoined}
use Rattle.ignore_base.specs.Normalize.{NormalizesToClean, is_without_names}
use Rattle.ignore_base.proofs.CleanLemmas.{clear, components-joined, first_name, other_names}
use Rattle.ignore_base.proofs.ComponentLemmas.{components-first_component, first_component, others}
use Rattle.ignore_base.proofs.JoinLaws.{components-before, from_clear, relative-names, whole_front}
use Rattle.ignore_base.proofs.JoinLemmas.{relative}
use Rattle.ignore_base.proofs.RootLemmas.{leads}

-- names, each after a slash
abbrev pub after_slashes : List (List ℕ) → List ℕ
after_slashes [] = []
after_slashes (n ∷ ns) = 47 ∷ (n ++ after_slashes ns)

pub joined-first : (n : List ℕ) (ns : List (List ℕ)) → n ++ after_slashes ns ≡ joined (n ∷ ns)
joined-first n [] = append-nil n
joined-first n (m ∷ ns) = ap (λ l. n ++ 47 ∷ l) (joined-first m ns)

-- one component more
pub steps-last : (names : List (List ℕ)) (cs : List (Bor (List ℕ))) (c : Bor (List ℕ))
    → steps names (map (λ n. n.now) (cs ++ c ∷ [])) ≡ step (steps names (map (λ n. n.now) cs)) c.now
steps-last names [] c = refl
steps-last names (d ∷ cs) c = steps-last (step names d.now) cs c

steps-append : (names cs ds : List (List ℕ)) → steps names (cs ++ ds) ≡ steps (steps names cs) ds
steps-append names [] ds = refl
steps-append names (c ∷ cs) ds = steps-append (step names c) cs ds

steps-whole : (names cs : List (List ℕ)) → steps names (whole_components cs) ≡ steps names cs
steps-whole names [] = refl
steps-whole names ([] ∷ []) = refl
steps-whole names ((b ∷ bs) ∷ []) = refl
steps-whole names (c ∷ (d ∷ cs)) = steps-whole (step names c) (d ∷ cs)

but_last-snoc : (xs : List (List ℕ)) (x : List ℕ) → but_last (xs ++ x ∷ []) ≡ xs
but_last-snoc [] x = refl
but_last-snoc (y ∷ []) x = refl
but_last-snoc (y ∷ (z ∷ xs)) x = ap (λ l. y ∷ l) (but_last-snoc (z ∷ xs) x)

-- what is left where the last is removed, if there is one
pub but_last-popped : (old new : List (Bor (List ℕ))) (r : Option (Bor (List ℕ))) (n m : ℕ) → old ≡ new ++ option_to_list r
    → MatchOption r ((n ≡ 0) × (m ≡ 0)) (λ _. m + 1 ≡ n) → new ≡ take (n - 1) old
    → map (λ n. n.now) new ≡ but_last (map (λ n. n.now) old)
but_last-popped old new None n m all empty rest =
    let none : new ≡ [] = rest ∙ ap (λ k. take (k - 1) old) empty.0 in
    ap (map (λ n. n.now)) none
    ∙ sym (ap (λ l. but_last (map (λ n. n.now) l)) (all ∙ ap (λ l. l ++ []) none))
but_last-popped old new (Some x) n m all some rest =
    sym (ap (λ l. but_last (map (λ n. n.now) l)) all ∙ ap but_last (map-append (λ n. n.now) new (x ∷ []))
    ∙ but_last-snoc (map (λ n. n.now) new) x.now)

pub step-up : (names : List (List ℕ)) (c : List ℕ) → c ≡ 46 ∷ (46 ∷ []) → step names c ≡ but_last names
step-up names c e = ap (step names) e

-- a path that is joined to another leads on from where that leads
pub steps-join : (names : List (List ℕ)) (base path : List ℕ) → is_absolute path ≡ false
    → steps names (components (join_of base path)) ≡ steps (steps names (components base)) (components path)
steps-join names base path e =
    let ws = whole_components (components base) in
    let at = components-first_component path in
    ap (λ p. steps names (components p)) (relative base path e ∙ ap (λ l. joined (ws ++ l)) at)
    ∙ ap (steps names) (components-before ws (first_component path) (others path)
    (whole_front (components base) (from_clear (components base) (clear base)))
    (from_clear (first_component path ∷ others path) (subst (AllByRecursion (λ q. ¬ Contains {X = ℕ} q 47)) at (clear path))))
    ∙ ap (λ l. steps names (ws ++ l)) (sym at)
    ∙ steps-append names ws (components path)
    ∙ ap (λ l. steps l (components path)) (steps-whole names (components base))

-- the components of a root lead to its names
pub full-absolute : (dir : Option (List ℕ)) (path : List ℕ) → is_absolute path ≡ true → full_path dir path ≡ Some path
full-absolute None path e = cond-true (is_absolute path) (Some path) None e
full-absolute (Some dir) path e =
    cond-true (is_absolute path) (Some path) (cond (is_absolute dir) (Some (join_of dir path)) None) e

pub full-relative : (dir path : List ℕ) → is_absolute path ≡ false
    → full_path (Some dir) path ≡ cond (is_absolute dir) (Some (join_of dir path)) None
full-relative dir path e = cond-false (is_absolute path) (Some path) (cond (is_absolute dir) (Some (join_of dir path)) None) e

pub names-absolute : (dir : Option (List ℕ)) (path : List ℕ) → is_absolute path ≡ true
    → names_from_root dir path ≡ Some (steps [] (components path))
names-absolute dir path e = ap (option_map (λ p. steps [] (components p))) (full-absolute dir path e)

pub names-relative : (dir path : List ℕ) → is_absolute path ≡ false → is_absolute dir ≡ true
    → names_from_root (Some dir) path ≡ Some (steps (steps [] (components dir)) (components path))
names-relative dir path e f =
    ap (option_map (λ p. steps [] (components p)))
    (full-relative dir path e ∙ cond-true (is_absolute dir) (Some (join_of dir path)) None f)
    ∙ ap Some (steps-join [] dir path e)

-- names are appended
step-name : (names : List (List ℕ)) (n : List ℕ) → IsName n → step names n ≡ names ++ n ∷ []
step-name names n h =
    cond-false (length n == 0 || bytes_eq n (46 ∷ [])) names (cond (bytes_eq n (46 ∷ (46 ∷ []))) (but_last names) (names ++ n ∷ []))
    (or_from (length n == 0) (bytes_eq n (46 ∷ []))
    (ne_eqb (length n) 0 (λ e. h.filled (nil_from_length n e)))
    (false_from_ne_true _ (λ e. h.no_dot ((bytes_eq-Decides n (46 ∷ [])).0 e))))
    ∙ cond-false (bytes_eq n (46 ∷ (46 ∷ []))) (but_last names) (names ++ n ∷ [])
    (false_from_ne_true _ (λ e. h.no_dots ((bytes_eq-Decides n (46 ∷ (46 ∷ []))).0 e)))

steps-names : (names ns : List (List ℕ)) → All IsName ns → steps names ns ≡ names ++ ns
steps-names names [] h = sym (append-nil names)
steps-names names (n ∷ ns) h =
    ap (λ l. steps l ns) (step-name names n (first_name n ns h)) ∙ steps-names (names ++ n ∷ []) ns (other_names n ns h)
    ∙ append_assoc names (n ∷ []) ns

steps-clean : (names ns : List (List ℕ)) → All IsName ns → steps names (components (joined ns)) ≡ names ++ ns
steps-clean names [] h = sym (append-nil names)
steps-clean names (n ∷ ns) h = ap (steps names) (components-joined n ns h) ∙ steps-names names (n ∷ ns) h

relative-clean : (ns : List (List ℕ)) → All IsName ns → is_absolute (joined ns) ≡ false
relative-clean [] h = refl
relative-clean (n ∷ ns) h = relative-names n ns (first_name n ns h)

-- what is joined to a root is absolute where the root is, and isn't empty
absolute-slash : (t q : List ℕ) → is_absolute (t ++ 47 ∷ q) ≡ is_absolute (t ++ 47 ∷ [])
absolute-slash [] q = refl
absolute-slash (x ∷ t) q = refl

absolute-filled : (t q : List ℕ) → t ≢ [] → is_absolute (t ++ 47 ∷ q) ≡ is_absolute t
absolute-filled [] q h = absurd (h refl)
absolute-filled (x ∷ t) q h = refl

filled-slash : (t q : List ℕ) → (length (t ++ 47 ∷ q) == 0) ≡ false
filled-slash t q = ne_eqb (length (t ++ 47 ∷ q)) 0 (λ e. absurd (omega (arith, e, length-append t (47 ∷ q))))

absolute-join : (root q : List ℕ) → root ≢ [] → is_absolute q ≡ false → is_absolute (join_of root q) ≡ is_absolute root
absolute-join root q some e = let w = leads root some in
    ap is_absolute (w.2 q e) ∙ ⊎_elim
    (λ at. absolute-slash w.0 q ∙ sym (ap is_absolute at))
    (λ at. absolute-filled w.0 q (λ none. some (at ∙ none)) ∙ sym (ap is_absolute at))
    w.1

filled-join : (root q : List ℕ) → root ≢ [] → is_absolute q ≡ false → (length (join_of root q) == 0) ≡ false
filled-join root q some e = let w = leads root some in ap (λ p. length p == 0) (w.2 q e) ∙ filled-slash w.0 q

rest-below : (root ns : List (List ℕ)) → rest_below root (root ++ ns) ≡ Some (joined ns)
rest-below root ns =
    cond-true (starts_with bytes_eq (root ++ ns) root) (Some (joined (drop (length root) (root ++ ns)))) None
    ((starts_is bytes_eq-Decides (root ++ ns) root _ refl).1 ns refl)
    ∙ ap (λ l. Some (joined l)) (drop_at root ns (length root) refl)

pub normalize_of-none : (dir : Option (List ℕ)) (root path : List ℕ) → is_without_names root path ≡ true → normalize_of dir root path ≡ None
unfolding normalize_of
normalize_of-none dir root path e =
    cond-true (is_without_names root path) None
    (option_and_then (λ names. option_and_then (rest_below names) (names_from_root dir path)) (names_from_root dir root)) e

pub normalize_of-some : (dir : Option (List ℕ)) (root path : List ℕ) → is_without_names root path ≡ false
    → normalize_of dir root path
    ≡ option_and_then (λ names. option_and_then (rest_below names) (names_from_root dir path)) (names_from_root dir root)
unfolding normalize_of
normalize_of-some dir root path e =
    cond-false (is_without_names root path) None
    (option_and_then (λ names. option_and_then (rest_below names) (names_from_root dir path)) (names_from_root dir root)) e

normalize_of-asked : (dir : Option (List ℕ)) (root path : List ℕ) → root ≢ [] → root ≢ 45 ∷ [] → (length path == 0) ≡ false
    → normalize_of dir root path
    ≡ option_and_then (λ names. option_and_then (rest_below names) (names_from_root dir path)) (names_from_root dir root)
normalize_of-asked dir root path some no_dash filled =
    normalize_of-some dir root path
    (or_from (length root == 0 || bytes_eq root (45 ∷ [])) (length path == 0)
    (or_from (length root == 0) (bytes_eq root (45 ∷ []))
    (ne_eqb (length root) 0 (λ e. some (nil_from_length root e)))
    (false_from_ne_true _ (λ e. no_dash ((bytes_eq-Decides root (45 ∷ [])).0 e)))) filled)

-- the names of a root, and those of what is joined to it
names-join : (dir : Option (List ℕ)) (root : List ℕ) (ns : List (List ℕ)) → root ≢ [] → All IsName ns
    → (is_absolute root ≡ true) ⊎ IsKnown dir
    → (names : List (List ℕ)) × (names_from_root dir root ≡ Some names) × (names_from_root dir (join_of root (joined ns)) ≡ Some (names ++ ns))
names-join dir root ns some are known =
    let q = joined ns in
    let e = relative-clean ns are in
    let here : is_absolute (join_of root q) ≡ is_absolute root = absolute-join root q some e in
    let from_root : is_absolute root ≡ true
    → (names : List (List ℕ)) × (names_from_root dir root ≡ Some names) × (names_from_root dir (join_of root q) ≡ Some (names ++ ns)) = λ a. (
      steps [] (components root),
      names-absolute dir root a,
      names-absolute dir (join_of root q) (here ∙ a)
          ∙ ap Some (steps-join [] root q e ∙ steps-clean (steps [] (components root)) ns are),
    ) in
    ⊎_elim from_root
    (λ k. ⊎_elim from_root (λ a. (
      steps (steps [] (components k.0)) (components root),
      ap (λ d. names_from_root d root) k.1 ∙ names-relative k.0 root a k.2,
      ap (λ d. names_from_root d (join_of root q)) k.1 ∙ names-relative k.0 (join_of root q) (here ∙ a) k.2
          ∙ ap Some (steps-join (steps [] (components k.0)) root q e
          ∙ steps-clean (steps (steps [] (components k.0)) (components root)) ns are),
    )) (cases_Bool (is_absolute root)))
    known

pub normalizes-joined : NormalizesJoined
normalizes-joined dir root path some no_dash clean known =
    let ns = clean.0 in
    let e = relative-clean ns clean.1 in
    let w = names-join dir root ns some clean.1 known in
    ap (λ p. normalize_of dir root (join_of root p)) clean.2
    ∙ normalize_of-asked dir root (join_of root (joined ns)) some no_dash (filled-join root (joined ns) some e)
    ∙ ap (option_and_then (λ names. option_and_then (rest_below names) (names_from_root dir (join_of root (joined ns))))) w.1
    ∙ ap (option_and_then (rest_below w.0)) w.2
    ∙ rest-below w.0 ns
    ∙ ap Some (sym clean.2)

-- where steps lead, there are names
but_last-names : (names : List (List ℕ)) → All IsName names → All IsName (but_last names)
but_last-names [] h = All-nil IsName
but_last-names (n ∷ []) h = All-nil IsName
but_last-names (n ∷ (m ∷ ns)) h =
    All-cons IsName n (but_last (m ∷ ns)) (first_name n (m ∷ ns) h) (but_last-names (m ∷ ns) (other_names n (m ∷ ns) h))

step-clean : (names : List (List ℕ)) (c : List ℕ) → All IsName names → (Contains {X = ℕ} c 47 → ⊥) → All IsName (step names c)
step-clean names c are whole =
    let idle = length c == 0 || bytes_eq c (46 ∷ []) in
    let up = bytes_eq c (46 ∷ (46 ∷ [])) in
    let moved = cond up (but_last names) (names ++ c ∷ []) in
    ⊎_elim
    (λ e. subst (All IsName) (sym (cond-true idle names moved e)) are)
    (λ f. subst (All IsName) (sym (cond-false idle names moved f)) (⊎_elim
    (λ e. subst (All IsName) (sym (cond-true up (but_last names) (names ++ c ∷ []) e)) (but_last-names names are))
    (λ g. let h = or_parts (length c == 0) (bytes_eq c (46 ∷ [])) f in
    subst (All IsName) (sym (cond-false up (but_last names) (names ++ c ∷ []) g)) (All-push IsName names c are (record {
      filled = λ e. both_ways _ h.0 (eq-eqb _ 0 (ap length e));
      whole = whole;
      no_dot = λ e. both_ways _ h.1 ((bytes_eq-Decides c (46 ∷ [])).1 e);
      no_dots = λ e. both_ways _ g ((bytes_eq-Decides c (46 ∷ (46 ∷ []))).1 e);
    })))
    (cases_Bool up)))
    (cases_Bool idle)

steps-names-only : (names cs : List (List ℕ)) → All IsName names → AllByRecursion (λ q. ¬ Contains {X = ℕ} q 47) cs
    → All IsName (steps names cs)
steps-names-only names [] are h = are
steps-names-only names (c ∷ cs) are h = steps-names-only (step names c) cs (step-clean names c are h.0) h.1

names-only : (full : Option (List ℕ)) (names : List (List ℕ)) → option_map (λ p. steps [] (components p)) full ≡ Some names
    → All IsName names
names-only None names e = absurd (none_some e)
  where
    none_some : ◌≡◌ {A = Option (List (List ℕ))} None (Some names) → ⊥
    none_some k = cc
names-only (Some p) names e =
    let same : steps [] (components p) ≡ names = cc in
    subst (All IsName) same (steps-names-only [] (components p) (All-nil IsName) (clear p))

rest-clean : (root names : List (List ℕ)) (text : List ℕ) → All IsName names → rest_below root names ≡ Some text → IsCleanPath text
rest-clean root names text are e =
    ⊎_elim
    (λ t. let same : Some (joined (drop (length root) names)) ≡ Some text = sym (cond-true front _ None t) ∙ e in
    (drop (length root) names, All-drop IsName (length root) names are, cc))
    (λ f. absurd (none_some (sym (cond-false front (Some (joined (drop (length root) names))) None f) ∙ e)))
    (cases_Bool front)
  where
    front : Bool
    front = starts_with bytes_eq names root

    none_some : ◌≡◌ {A = Option (List ℕ)} None (Some text) → ⊥
    none_some k = cc

both-clean : (front names : Option (List (List ℕ))) (text : List ℕ) → ((ns : List (List ℕ)) → names ≡ Some ns → All IsName ns)
    → option_and_then (λ root. option_and_then (rest_below root) names) front ≡ Some text → IsCleanPath text
both-clean None names text are e = absurd (none_some e)
  where
    none_some : ◌≡◌ {A = Option (List ℕ)} None (Some text) → ⊥
    none_some k = cc
both-clean (Some root) None text are e = absurd (none_some e)
  where
    none_some : ◌≡◌ {A = Option (List ℕ)} None (Some text) → ⊥
    none_some k = cc
both-clean (Some root) (Some ns) text are e = rest-clean root ns text (are ns refl) e

pub normalizes-to-clean : NormalizesToClean
normalizes-to-clean dir root path text e =
    ⊎_elim
    (λ t. absurd (none_some (sym (normalize_of-none dir root path t) ∙ e)))
    (λ f. both-clean (names_from_root dir root) (names_from_root dir path) text
    (λ ns k. names-only (full_path dir path) ns k)
    (sym (normalize_of-some dir root path f) ∙ e))
    (cases_Bool (is_without_names root path))
  where
    none_some : ◌≡◌ {A = Option (List ℕ)} None (Some text) → ⊥
    none_some k = cc

-- what a slice of texts begins with
pub starts-texts : (names root : List (Bor (List ℕ)))
    → starts_with (λ a b. bytes_eq a.now b.now) names root ≡ starts_with bytes_eq (map (λ n. n.now) names) (map (λ n. n.now) root)
starts-texts names root =
    let f = λ (n : Bor (List ℕ)). n.now in
    sym (ap (λ k. pointwise bytes_eq (map f root) (take k (map f names))) (length-map root f)
    ∙ ap (pointwise bytes_eq (map f root)) (take-map f (length root) names)
    ∙ pointwise-map f bytes_eq root (take (length root) names))

pub rest-none : (root names : List (Bor (List ℕ))) → starts_with (λ a b. bytes_eq a.now b.now) names root ≡ false
    → None ≡ rest_below (map (λ n. n.now) root) (map (λ n. n.now) names)
rest-none root names e =
    let f = λ (n : Bor (List ℕ)). n.now in
    sym (cond-false (starts_with bytes_eq (map f names) (map f root)) (Some (joined (drop (length (map f root)) (map f names)))) None
    (sym (starts-texts names root) ∙ e))

pub rest-some : (root names : List (Bor (List ℕ))) → starts_with (λ a b. bytes_eq a.now b.now) names root ≡ true
    → Some (joined (map (λ n. n.now) (drop (length root) names))) ≡ rest_below (map (λ n. n.now) root) (map (λ n. n.now) names)
rest-some root names e =
    let f = λ (n : Bor (List ℕ)). n.now in
    sym (cond-true (starts_with bytes_eq (map f names) (map f root)) (Some (joined (drop (length (map f root)) (map f names)))) None
    (sym (starts-texts names root) ∙ e)
    ∙ ap (λ k. Some (joined (drop k (map f names)))) (length-map root f)
    ∙ ap (λ l. Some (joined l)) (drop-map f (length root) names))

-- a path in normal form relative to a root, by the names of both
pub normal-no_root : (dir : Option (List ℕ)) (root path : List ℕ) → is_without_names root path ≡ false → None ≡ names_from_root dir root
    → None ≡ normalize_of dir root path
normal-no_root dir root path e none =
    ap (option_and_then (λ names. option_and_then (rest_below names) (names_from_root dir path))) none ∙ sym (normalize_of-some dir root path e)

pub normal-no_path : (dir : Option (List ℕ)) (root path : List ℕ) (front : List (List ℕ)) → is_without_names root path ≡ false
    → Some front ≡ names_from_root dir root → None ≡ names_from_root dir path → None ≡ normalize_of dir root path
normal-no_path dir root path front e some none =
    ap (option_and_then (rest_below front)) none
    ∙ ap (option_and_then (λ names. option_and_then (rest_below names) (names_from_root dir path))) some
    ∙ sym (normalize_of-some dir root path e)

pub normal-rest : (dir : Option (List ℕ)) (root path : List ℕ) (front names : List (List ℕ)) → is_without_names root path ≡ false
    → Some front ≡ names_from_root dir root → Some names ≡ names_from_root dir path → rest_below front names ≡ normalize_of dir root path
normal-rest dir root path front names e some more =
    ap (option_and_then (rest_below front)) more
    ∙ ap (option_and_then (λ ns. option_and_then (rest_below ns) (names_from_root dir path))) some
    ∙ sym (normalize_of-some dir root path e)
