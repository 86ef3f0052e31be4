-- What the words on paths come to, case by case.
use Rattle.std.proofs.Common.{◌≡◌, ◌≢◌, ℕ, zero, suc, ◌<◌, ◌||◌, ◌&&◌, not, true, false, cond, List, [], ◌∷◌, ◌++◌, length, drop, get_or}
use Rattle.std.proofs.Common.{Option, Some, None, unwrap_or, codes, refl, sym, ap, ◌∙◌, arith, inl, inr, ◌⊎◌}
use Rattle.std.specs.Option.{option_map, is_some}
use Rattle.std.specs.Str.{bytes_eq}
use Rattle.std.specs.List.{starts_with}
use Rattle.std.proofs.Common.{nat_eq, Bor, MatchOption, eqb-true}
use Rattle.std.proofs.lemmas.Bool.{cond-true, cond-false, false_from_ne_true, and_left, or_left, or_right, or_from, not_from_false}
use Rattle.std.proofs.lemmas.Bool.{not_from_true}
use Rattle.std.proofs.lemmas.Bool.Decides.{Decides-eqb}
use Rattle.std.proofs.lemmas.List.{drop_at}
use Rattle.std.proofs.lemmas.Slice.Eq.{starts_is}
use Rattle.memchr.specs.Find.{IsFirstByte, is_byte}
use Rattle.ignore_base.specs.Text.{is_slash}
use Rattle.ignore_base.specs.Paths.{components, last_component, name_in, file_name_of, at_bound, strip_prefix_of, has_slash}
use Rattle.ignore_base.specs.Paths.{is_dot, below, without_slash}

pub file_name_of-nil : file_name_of [] ≡ None
unfolding file_name_of
file_name_of-nil = refl

pub file_name_of-some : (path : List ℕ) → path ≢ [] → file_name_of path ≡ name_in (last_component (components path))
unfolding file_name_of
file_name_of-some [] some = absurd (some refl)
file_name_of-some (b ∷ bs) some = refl

pub name_in-none : (component : List ℕ) → (bytes_eq component (codes ".") ≡ true) ⊎ (bytes_eq component (codes "..") ≡ true)
    → name_in component ≡ None
name_in-none component (inl e) =
    cond-true (bytes_eq component (codes ".") || bytes_eq component (codes "..")) None (Some component)
    (or_left (bytes_eq component (codes ".")) (bytes_eq component (codes "..")) e)
name_in-none component (inr e) =
    cond-true (bytes_eq component (codes ".") || bytes_eq component (codes "..")) None (Some component)
    (or_right (bytes_eq component (codes ".")) (bytes_eq component (codes "..")) e)

pub name_in-some : (component : List ℕ) → bytes_eq component (codes ".") ≡ false → bytes_eq component (codes "..") ≡ false
    → name_in component ≡ Some component
name_in-some component e f =
    cond-false (bytes_eq component (codes ".") || bytes_eq component (codes "..")) None (Some component)
    (or_from (bytes_eq component (codes ".")) (bytes_eq component (codes "..")) e f)

-- a slash at some place, or at none
pub has_slash-at : (xs : List ℕ) (k : ℕ) → k < length xs → is_slash (get_or xs k 0) ≡ true → has_slash xs ≡ true
has_slash-at [] k l e = absurd (omega (arith, l))
has_slash-at (x ∷ xs) zero l e = or_left (is_slash x) (has_slash xs) e
has_slash-at (x ∷ xs) (suc k) l e = or_right (is_slash x) (has_slash xs) (has_slash-at xs k (omega (arith, l)) e)

pub has_slash-none : (xs : List ℕ) → ((k : ℕ) → k < length xs → is_slash (get_or xs k 0) ≡ true → ⊥) → has_slash xs ≡ false
has_slash-none [] h = refl
has_slash-none (x ∷ xs) h =
    or_from (is_slash x) (has_slash xs) (false_from_ne_true _ (h zero (omega arith)))
    (has_slash-none xs (λ k l e. h (suc k) (omega (arith, l)) e))

pub has_slash-found : (path : List ℕ) (r : Option ℕ) → IsFirstByte (is_byte 47) path r → is_some r ≡ has_slash path
has_slash-found path None h = sym (has_slash-none path (λ k l e. h k (omega arith) l e))
has_slash-found path (Some k) h = sym (has_slash-at path k h.0.high h.1)

pub has_slash-inside : (xs ys : List ℕ) → has_slash (xs ++ 47 ∷ ys) ≡ true
has_slash-inside [] ys = refl
has_slash-inside (x ∷ xs) ys = or_right (is_slash x) (has_slash (xs ++ 47 ∷ ys)) (has_slash-inside xs ys)

-- a prefix that the path does not begin with
pub strip_prefix_of-none : (prefix path : List ℕ) → ((rest : List ℕ) → path ≢ prefix ++ rest) → strip_prefix_of prefix path ≡ None
unfolding strip_prefix_of
strip_prefix_of-none prefix path other =
    let no : starts_with nat_eq path prefix ≡ false = false_from_ne_true _
    (λ e. other (drop (length prefix) path) ((starts_is Decides-eqb path prefix _ refl).0 e)) in
    cond-false (starts_with nat_eq path prefix && at_bound prefix (drop (length prefix) path)) (Some (drop (length prefix) path)) None
    (and_left _ (at_bound prefix (drop (length prefix) path)) no)

-- and one that it begins with
pub strip_prefix_of-at : (prefix path rest : List ℕ) → path ≡ prefix ++ rest
    → strip_prefix_of prefix path ≡ cond (at_bound prefix rest) (Some rest) None
unfolding strip_prefix_of
strip_prefix_of-at prefix path rest at =
    let yes : starts_with nat_eq path prefix ≡ true = (starts_is Decides-eqb path prefix _ refl).1 rest at in
    let left : drop (length prefix) path ≡ rest = ap (drop (length prefix)) at ∙ drop_at prefix rest (length prefix) refl in
    ap (λ b. cond (b && at_bound prefix (drop (length prefix) path)) (Some (drop (length prefix) path)) None) yes
    ∙ ap (λ r. cond (at_bound prefix r) (Some r) None) left

-- where nothing is stripped
pub below-dot : (root path : List ℕ) → is_dot root ≡ true → below root path ≡ path
unfolding below
below-dot root path e =
    cond-true (is_dot root || not (has_slash path)) path (unwrap_or (option_map without_slash (strip_prefix_of root path)) path)
    (or_left (is_dot root) (not (has_slash path)) e)

pub below-flat : (root path : List ℕ) → has_slash path ≡ false → below root path ≡ path
unfolding below
below-flat root path e =
    cond-true (is_dot root || not (has_slash path)) path (unwrap_or (option_map without_slash (strip_prefix_of root path)) path)
    (or_right (is_dot root) (not (has_slash path)) (not_from_false (has_slash path) e))

-- where the root may be stripped
pub below-deep : (root path : List ℕ) → is_dot root ≡ false → has_slash path ≡ true
    → below root path ≡ unwrap_or (option_map without_slash (strip_prefix_of root path)) path
unfolding below
below-deep root path e f =
    cond-false (is_dot root || not (has_slash path)) path (unwrap_or (option_map without_slash (strip_prefix_of root path)) path)
    (or_from (is_dot root) (not (has_slash path)) e (not_from_true (has_slash path) f))

without_slash-none : (path : List ℕ) → ((rest : List ℕ) → path ≢ 47 ∷ rest) → path ≡ without_slash path
without_slash-none [] h = refl
without_slash-none (b ∷ bs) h =
    sym (cond-false (is_slash b) bs (b ∷ bs) (false_from_ne_true _ (λ e. h bs (ap (λ x. x ∷ bs) (eqb-true b 47 e)))))

-- one leading slash that is stripped, or none
pub without_slash-is : (path : List ℕ) (r : Option (Bor (List ℕ))) (given : Bor (List ℕ)) → given.now ≡ path
    → MatchOption r ((rest : List ℕ) → path ≢ 47 ∷ rest) (λ x. path ≡ 47 ∷ x.now) → (unwrap_or r given).now ≡ without_slash path
without_slash-is path None given is h = is ∙ without_slash-none path h
without_slash-is path (Some x) given is h = sym (ap without_slash h)
