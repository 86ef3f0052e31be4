-- Where each byte of a path may follow the one before it, its components are names.
use Rattle.std.proofs.Common.{◌≡◌, ℕ, ◌==◌, ◌&&◌, not, true, false, List, [], ◌∷◌, length, codes, get_or, ap, ◌∙◌, arith, ⊎_elim}
use Rattle.std.specs.Str.{bytes_eq}
use Rattle.std.specs.List.{list_all}
use Rattle.std.proofs.lemmas.Bool.{cond-true, cond-false, cases_Bool, false_from_ne_true, both_ways, and_parts, and_from, not-true}
use Rattle.std.proofs.lemmas.Bool.{not_from_false, ne_eqb, or_cases, eqb-false}
use Rattle.std.proofs.lemmas.Slice.Eq.{bytes_eq-Decides}
use Rattle.ignore_base.specs.Text.{is_slash}
use Rattle.ignore_base.specs.Paths.{components, is_proper}
use Rattle.ignore_base.proofs.ComponentLemmas.{first_component, others, components-first_component}
use Rattle.ignore_query.specs.Plain.{all_follow, last_of, may_follow}

-- a text that doesn't begin with a dot may be a name
pub proper_from : (x : ℕ) (xs : List ℕ) → (x == 46) ≡ false → is_proper (x ∷ xs) ≡ true
proper_from x xs h =
    and_from _ (not (bytes_eq (x ∷ xs) (codes "..")))
    (and_from (not (length (x ∷ xs) == 0)) (not (bytes_eq (x ∷ xs) (codes ".")))
    (not_from_false _ (ne_eqb (length (x ∷ xs)) 0 (λ e. absurd (omega (arith, e)))))
    (not_from_false _ (false_from_ne_true _ (λ e. eqb-false x 46 h (ap (λ l. get_or l 0 0) ((bytes_eq-Decides (x ∷ xs) (codes ".")).0 e))))))
    (not_from_false _ (false_from_ne_true _ (λ e. eqb-false x 46 h (ap (λ l. get_or l 0 0) ((bytes_eq-Decides (x ∷ xs) (codes "..")).0 e)))))

-- after a slash comes neither a slash nor a dot
pub after_slash : (b x : ℕ) → may_follow b x ≡ true → is_slash b ≡ true → (is_slash x ≡ false) × ((x == 46) ≡ false)
after_slash b x h e = ⊎_elim
    (λ k. absurd (both_ways _ (not-true _ k) e))
    (λ k. let p = and_parts (not (is_slash x)) (not (x == 46)) k in (not-true _ p.0, not-true _ p.1))
    (or_cases (not (is_slash b)) (not (is_slash x) && not (x == 46)) h)

-- the components that begin after a slash are names
pub plain_others : (b : ℕ) (xs : List ℕ) → all_follow b xs ≡ true → is_slash (last_of b xs) ≡ false
    → list_all is_proper (others (b ∷ xs)) ≡ true
plain_others b [] h e = ap (list_all is_proper) (cond-false (is_slash b) (components []) (others []) e)
plain_others b (x ∷ xs) h e =
    let parts = and_parts (may_follow b x) (all_follow x xs) h in
    let rest = plain_others x xs parts.1 e in ⊎_elim
    (λ is. let clear = after_slash b x parts.0 is in
    ap (list_all is_proper) (cond-true (is_slash b) (components (x ∷ xs)) (others (x ∷ xs)) is ∙ components-first_component (x ∷ xs))
    ∙ and_from (is_proper (first_component (x ∷ xs))) (list_all is_proper (others (x ∷ xs)))
    (ap is_proper (cond-false (is_slash x) [] (x ∷ first_component xs) clear.0) ∙ proper_from x (first_component xs) clear.1) rest)
    (λ apart. ap (list_all is_proper) (cond-false (is_slash b) (components (x ∷ xs)) (others (x ∷ xs)) apart) ∙ rest)
    (cases_Bool (is_slash b))

-- those of a whole path are
pub plain_path : (path : List ℕ) → all_follow 47 path ≡ true → is_slash (last_of 47 path) ≡ false
    → list_all is_proper (components path) ≡ true
plain_path path h e = plain_others 47 path h e
