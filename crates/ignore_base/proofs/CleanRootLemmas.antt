-- The test of a root, and the grammar of clean roots.
use Rattle.std.proofs.Common.{◌≡◌, ◌≢◌, ℕ, zero, suc, ◌+◌, true, false, cond, nat_eq, List, [], ◌∷◌, ◌++◌, drop, codes, refl, sym, ap}
use Rattle.std.proofs.Common.{subst, ◌∙◌, arith, inl, inr, ⊎_elim, append_assoc, eqb-true, Contains, All, Decides}
use Rattle.std.specs.List.{list_all, starts_with, prefix_len, AllByRecursion}
use Rattle.std.proofs.lemmas.Bool.{cond-true, cond-false, cases_Bool, false_from_ne_true}
use Rattle.std.proofs.lemmas.Bool.Decides.{Decides-eqb}
use Rattle.std.proofs.lemmas.List.{append-nil, same_from_push}
use Rattle.std.proofs.lemmas.Slice.Eq.{starts_is, bytes_eq-Decides}
use Rattle.ignore_base.specs.Text.{is_slash}
use Rattle.ignore_base.specs.Paths.{components, joined, last_component, is_absolute, trim_of, without_slash, is_proper, IsName}
use Rattle.ignore_base.specs.Paths.{IsEnd, IsLead, IsCleanRoot, dot, dot_slash, slash, named, above}
use Rattle.ignore_base.specs.RootSteps.{IsWithoutEnd, is_up, rises, is_rooted}
use Rattle.ignore_base.proofs.ComponentLemmas.{first_component, others, components-first_component, components-slash, joined-components}
use Rattle.ignore_base.proofs.ComponentLemmas.{last_component-snoc}
use Rattle.ignore_base.proofs.FirstComponentLemmas.{first_component-joined, first_component-absolute}
use Rattle.ignore_base.proofs.CleanLemmas.{clear, names_each, names-components, first_name, other_names, proper_each, components-whole}
use Rattle.ignore_base.proofs.RootLemmas.{cons_nil, ups_whole}

-- what follows the components `..` is names where the components rise
pub rises-skips : (ps : List (List ℕ)) → list_all is_proper (drop (prefix_len is_up ps) ps) ≡ rises ps
rises-skips [] = refl
rises-skips (p ∷ ps) =
    elim (is_up p) as (λ v. list_all is_proper (drop (cond v (1 + prefix_len is_up ps) 0) (p ∷ ps))
    ≡ cond v (rises ps) (list_all is_proper (p ∷ ps))) [
      | true ↦ let one : 1 + prefix_len is_up ps ≡ suc (prefix_len is_up ps) = omega arith in
          ap (λ n. list_all is_proper (drop n (p ∷ ps))) one ∙ rises-skips ps
      | false ↦ refl
    ]

abbrev IsClear : List (List ℕ) → Type 0
IsClear = AllByRecursion (λ q. ¬ Contains q 47)

-- components that rise are components `..` and then names
split_ups : (ps : List (List ℕ)) → IsClear ps → rises ps ≡ true
    → (ups : List (List ℕ)) × (names : List (List ℕ)) × All (λ up. up ≡ codes "..") ups × All IsName names × (ps ≡ ups ++ names)
split_ups [] h e = ([], [], λ k d l. absurd (omega (arith, l)), λ k d l. absurd (omega (arith, l)), refl)
split_ups (p ∷ ps) h e =
    ⊎_elim
    (λ up.
    let w = split_ups ps h.1 (sym (cond-true (is_up p) (rises ps) (list_all is_proper (p ∷ ps)) up) ∙ e) in
    (p ∷ w.0, w.1, more_ups p w.0 ((bytes_eq-Decides p (codes "..")).0 up) w.2, w.3, ap (λ l. p ∷ l) w.4))
    (λ other. (
      [],
      p ∷ ps,
      λ k d l. absurd (omega (arith, l)),
      names_each (p ∷ ps) h (sym (cond-false (is_up p) (rises ps) (list_all is_proper (p ∷ ps)) other) ∙ e),
      refl,
    ))
    (cases_Bool (is_up p))
  where
    more_ups : (u : List ℕ) (us : List (List ℕ)) → u ≡ codes ".." → All (λ up. up ≡ codes "..") us → All (λ up. up ≡ codes "..") (u ∷ us)
    more_ups u us is rest zero d l = is
    more_ups u us is rest (suc k) d l = rest k d (omega (arith, l))

-- how a root ends past its body
ended : (root body : List ℕ) → IsWithoutEnd root body → (end : List ℕ) × IsEnd end × (root ≡ body ++ end)
ended root body (inl w) = ([], inl refl, w.0 ∙ sym (append-nil body))
ended root body (inr e) = (codes "/", inr refl, e)

-- names after a lead
lead_named : (root body lead rest : List ℕ) → IsWithoutEnd root body → IsLead lead → body ≡ lead ++ rest
    → list_all is_proper (components rest) ≡ true → root ≢ codes "-" → IsCleanRoot root
lead_named root body lead rest without is_lead at proper other =
    let all : All IsName (first_component rest ∷ others rest) = subst (All IsName) (components-first_component rest)
    (names-components rest proper) in
    let text : rest ≡ joined (first_component rest ∷ others rest) = sym (joined-components rest)
    ∙ ap joined (components-first_component rest) in
    let e = ended root body without in
    named lead (first_component rest) (others rest) e.0 is_lead (first_name (first_component rest) (others rest) all)
    (other_names (first_component rest) (others rest) all) e.1
    (e.2 ∙ ap (λ b. b ++ e.0) (at ∙ ap (λ r. lead ++ r) text) ∙ append_assoc lead (joined (first_component rest ∷ others rest)) e.0) other

rising_from : (root body : List ℕ) → IsWithoutEnd root body → root ≢ codes "-" → (ups names : List (List ℕ))
    → All (λ up. up ≡ codes "..") ups → All IsName names → components body ≡ ups ++ names → IsCleanRoot root
rising_from root body without other [] names us ns e =
    lead_named root body [] body without (inl refl) refl (ap (list_all is_proper) e ∙ proper_each names ns) other
rising_from root body without other (u ∷ ups) names us ns e =
    let w = ended root body without in
    above ups names w.0 (λ k d l. us (suc k) d (omega (arith, l))) ns w.1
    (w.2 ∙ ap (λ b. b ++ w.0) (sym (joined-components body) ∙ ap joined (e ∙ ap (λ v. v ∷ (ups ++ names)) (us zero u (omega arith)))))

sound : (root body : List ℕ) → IsWithoutEnd root body → root ≢ codes "-" → is_rooted body ≡ true → IsCleanRoot root
sound root body without other e =
    ⊎_elim
    (λ s.
    let at : body ≡ (46 ∷ (47 ∷ [])) ++ drop 2 body = (starts_is Decides-eqb body (46 ∷ (47 ∷ [])) _ refl).0 s in
    let is : trim_of body ≡ drop 2 body = cond-true (starts_with nat_eq body (codes "./")) (drop 2 body) body s in
    lead_named root body (codes "./") (drop 2 body) without (inr (inr refl)) at
    (ap (λ b. list_all is_proper (components b)) (sym is)
    ∙ sym (cond-true (starts_with nat_eq body (codes "./")) (list_all is_proper (components (trim_of body))) _ s) ∙ e) other)
    (λ s. further (sym (cond-false (starts_with nat_eq body (codes "./")) (list_all is_proper (components (trim_of body)))
    (cond (is_absolute body) (list_all is_proper (components (without_slash body))) (rises (components body))) s) ∙ e))
    (cases_Bool (starts_with nat_eq body (codes "./")))
  where
    after_slash : (b : List ℕ) → is_absolute b ≡ true → b ≡ 47 ∷ without_slash b
    after_slash [] a = cc
    after_slash (x ∷ xs) a = ap (λ y. y ∷ xs) (eqb-true x 47 a) ∙ ap (λ r. 47 ∷ r) (sym (cond-true (is_slash x) xs (x ∷ xs) a))

    further : cond (is_absolute body) (list_all is_proper (components (without_slash body))) (rises (components body)) ≡ true
        → IsCleanRoot root
    further f =
        ⊎_elim
        (λ a. lead_named root body (codes "/") (without_slash body) without (inr (inl refl)) (after_slash body a)
        (sym (cond-true (is_absolute body) (list_all is_proper (components (without_slash body))) (rises (components body)) a)
        ∙ f) other)
        (λ a. let w = split_ups (components body) (clear body)
        (sym (cond-false (is_absolute body) (list_all is_proper (components (without_slash body))) (rises (components body)) a) ∙ f) in
        rising_from root body without other w.0 w.1 w.2 w.3 w.4)
        (cases_Bool (is_absolute body))

-- the body of a text that does not end with a slash, and of that text and a slash
body_is : (root body text end : List ℕ) → IsWithoutEnd root body → IsEnd end → root ≡ text ++ end → ((ys : List ℕ) → text ≢ ys ++ 47 ∷ [])
    → body ≡ text
body_is root body text end (inl w) (inl z) at open_end = sym w.0 ∙ at ∙ ap (λ e. text ++ e) z ∙ append-nil text
body_is root body text end (inr w) (inl z) at open_end = absurd (open_end body (sym (at ∙ ap (λ e. text ++ e) z ∙ append-nil text) ∙ w))
body_is root body text end (inl w) (inr z) at open_end = absurd (w.1 text (at ∙ ap (λ e. text ++ e) z))
body_is root body text end (inr w) (inr z) at open_end = (same_from_push body text 47 47 (sym w ∙ at ∙ ap (λ e. text ++ e) z)).0

-- clear components that are joined are the components
components-clear : (x : List ℕ) (xs : List (List ℕ)) → IsClear (x ∷ xs) → components (joined (x ∷ xs)) ≡ x ∷ xs
components-clear x [] h = components-whole x h.0
components-clear x (y ∷ xs) h =
    components-slash x (joined (y ∷ xs)) ∙ ap (λ l. l ++ components (joined (y ∷ xs))) (components-whole x h.0)
    ∙ ap (λ l. x ∷ l) (components-clear y xs h.1)

last_filled : (x : List ℕ) (xs : List (List ℕ)) → AllByRecursion (λ q. q ≢ []) (x ∷ xs) → last_component (x ∷ xs) ≢ []
last_filled x [] h = h.0
last_filled x (y ∷ xs) h = last_filled y xs h.1

-- no slash at the end
open_ended : (lead : List ℕ) (x : List ℕ) (xs : List (List ℕ)) → IsLead lead → IsClear (x ∷ xs) → AllByRecursion (λ q. q ≢ []) (x ∷ xs)
    → (ys : List ℕ) → lead ++ joined (x ∷ xs) ≢ ys ++ 47 ∷ []
open_ended lead x xs is_lead h some ys e =
    last_filled x xs some (sym (shows lead is_lead) ∙ ap (λ t. last_component (components t)) e ∙ ap last_component (components-slash ys [])
    ∙ last_component-snoc (components ys) [])
  where
    shows : (l : List ℕ) → IsLead l → last_component (components (l ++ joined (x ∷ xs))) ≡ last_component (x ∷ xs)
    shows l (inl z) = ap (λ k. last_component (components (k ++ joined (x ∷ xs)))) z ∙ ap last_component (components-clear x xs h)
    shows l (inr (inl z)) =
        ap (λ k. last_component (components (k ++ joined (x ∷ xs)))) z ∙ ap (λ ps. last_component ([] ∷ ps)) (components-clear x xs h)
    shows l (inr (inr z)) =
        ap (λ k. last_component (components (k ++ joined (x ∷ xs)))) z
        ∙ ap (λ ps. last_component ((46 ∷ []) ∷ ps)) (components-clear x xs h)

clear_names : (ps : List (List ℕ)) → All IsName ps → IsClear ps
clear_names [] h = tt
clear_names (p ∷ ps) h = ((first_name p ps h).whole, clear_names ps (other_names p ps h))

filled_names : (ps : List (List ℕ)) → All IsName ps → AllByRecursion (λ q. q ≢ []) ps
filled_names [] h = tt
filled_names (p ∷ ps) h = ((first_name p ps h).filled, filled_names ps (other_names p ps h))

not_up : (p : List ℕ) → IsName p → is_up p ≡ false
not_up p n = false_from_ne_true _ (λ e. n.no_dots ((bytes_eq-Decides p (codes "..")).0 e))

rises-names : (ps : List (List ℕ)) → All IsName ps → rises ps ≡ true
rises-names [] h = refl
rises-names (p ∷ ps) h =
    cond-false (is_up p) (rises ps) (list_all is_proper (p ∷ ps)) (not_up p (first_name p ps h)) ∙ proper_each (p ∷ ps) h

-- a text whose first component is neither empty nor `.`
plain : (text : List ℕ) → first_component text ≢ 46 ∷ [] → first_component text ≢ [] → is_rooted text ≡ rises (components text)
plain text no_dot some =
    cond-false (starts_with nat_eq text (codes "./")) (list_all is_proper (components (trim_of text))) _
    (false_from_ne_true _ (λ s. no_dot (ap first_component ((starts_is Decides-eqb text (46 ∷ (47 ∷ [])) _ refl).0 s))))
    ∙ cond-false (is_absolute text) (list_all is_proper (components (without_slash text))) (rises (components text))
    (false_from_ne_true _ (λ a. some (first_component-absolute text a)))

front_plain : (x : List ℕ) (xs : List (List ℕ)) → ¬ Contains x 47 → first_component (joined (x ∷ xs)) ≡ x
front_plain x xs h = sym (ap first_component (append-nil (joined (x ∷ xs)))) ∙ first_component-joined x xs [] h (inl refl)

named_rooted : (lead x : List ℕ) (xs : List (List ℕ)) → IsLead lead → All IsName (x ∷ xs) → is_rooted (lead ++ joined (x ∷ xs)) ≡ true
named_rooted lead x xs (inl z) h =
    let n = first_name x xs h in
    let first = front_plain x xs n.whole in
    ap (λ l. is_rooted (l ++ joined (x ∷ xs))) z
    ∙ plain (joined (x ∷ xs)) (λ k. n.no_dot (sym first ∙ k)) (λ k. n.filled (sym first ∙ k))
    ∙ ap rises (components-clear x xs (clear_names (x ∷ xs) h))
    ∙ rises-names (x ∷ xs) h
named_rooted lead x xs (inr (inl z)) h =
    ap (λ l. is_rooted (l ++ joined (x ∷ xs))) z ∙ ap (list_all is_proper) (components-clear x xs (clear_names (x ∷ xs) h))
    ∙ proper_each (x ∷ xs) h
named_rooted lead x xs (inr (inr z)) h =
    ap (λ l. is_rooted (l ++ joined (x ∷ xs))) z ∙ ap (list_all is_proper) (components-clear x xs (clear_names (x ∷ xs) h))
    ∙ proper_each (x ∷ xs) h

-- components `..` and names
clear_ups : (ups names : List (List ℕ)) → All (λ up. up ≡ codes "..") ups → All IsName names → IsClear (ups ++ names)
clear_ups [] names us ns = clear_names names ns
clear_ups (u ∷ ups) names us ns = (
  subst (λ q. ¬ Contains q 47) (sym (us zero u (omega arith))) ups_whole,
  clear_ups ups names (λ k d l. us (suc k) d (omega (arith, l))) ns,
)

filled_ups : (ups names : List (List ℕ)) → All (λ up. up ≡ codes "..") ups → All IsName names → AllByRecursion (λ q. q ≢ []) (ups ++ names)
filled_ups [] names us ns = filled_names names ns
filled_ups (u ∷ ups) names us ns =
    (λ e. cons_nil 46 (46 ∷ []) (sym (us zero u (omega arith)) ∙ e), filled_ups ups names (λ k d l. us (suc k) d (omega (arith, l))) ns)

rises_ups : (ups names : List (List ℕ)) → All (λ up. up ≡ codes "..") ups → All IsName names → rises (ups ++ names) ≡ true
rises_ups [] names us ns = rises-names names ns
rises_ups (u ∷ ups) names us ns =
    cond-true (is_up u) (rises (ups ++ names)) _ ((bytes_eq-Decides u (codes "..")).1 (us zero u (omega arith)))
    ∙ rises_ups ups names (λ k d l. us (suc k) d (omega (arith, l))) ns

two_one : ◌≡◌ {A = List ℕ} (46 ∷ (46 ∷ [])) (46 ∷ []) → ⊥
two_one e = cc

with_first : (name : List ℕ) (names : List (List ℕ)) → IsName name → All IsName names → All IsName (name ∷ names)
with_first name names n ns zero d l = n
with_first name names n ns (suc k) d l = ns k d (omega (arith, l))

complete : (root body : List ℕ) → IsWithoutEnd root body → root ≢ codes "." → root ≢ codes "./" → root ≢ codes "/" → IsCleanRoot root
    → is_rooted body ≡ true
complete root body without a b c (dot e) = absurd (a e)
complete root body without a b c (dot_slash e) = absurd (b e)
complete root body without a b c (slash e) = absurd (c e)
complete root body without a b c (named lead name names end is_lead n ns e at minus) =
    let all = with_first name names n ns in
    ap is_rooted (body_is root body (lead ++ joined (name ∷ names)) end without e (at ∙ sym (append_assoc lead (joined (name ∷ names)) end))
    (open_ended lead name names is_lead (clear_names (name ∷ names) all) (filled_names (name ∷ names) all)))
    ∙ named_rooted lead name names is_lead all
complete root body without a b c (above ups names end us ns e at) =
    let up : List ℕ = codes ".." in
    let rest = ups ++ names in
    let clears : IsClear (up ∷ rest) = (ups_whole, clear_ups ups names us ns) in
    let fills : AllByRecursion (λ q. q ≢ []) (up ∷ rest) = (cons_nil 46 (46 ∷ []), filled_ups ups names us ns) in
    let first = front_plain up rest ups_whole in
    ap is_rooted (body_is root body (joined (up ∷ rest)) end without e at (open_ended [] up rest (inl refl) clears fills))
    ∙ plain (joined (up ∷ rest)) (λ k. two_one (sym first ∙ k)) (λ k. cons_nil 46 (46 ∷ []) (sym first ∙ k))
    ∙ ap rises (components-clear up rest clears)
    ∙ rises_ups ups names us ns

pub Decides-clean_root : (root body : List ℕ) → IsWithoutEnd root body → root ≢ codes "." → root ≢ codes "./" → root ≢ codes "/"
    → root ≢ codes "-" → Decides (is_rooted body) (IsCleanRoot root)
Decides-clean_root root body without a b c d = (sound root body without d, complete root body without a b c)
