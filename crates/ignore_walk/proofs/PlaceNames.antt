-- Names that listings lead along, and the paths of places.
use Rattle.std.proofs.Common.{◌≡◌, ◌≢◌, ℕ, zero, suc, ◌+◌, ◌≤◌, Bool, true, false, not, ◌&&◌, ◌||◌, ◌==◌, List, [], ◌∷◌, ◌++◌, length, drop, reverse, codes, All, refl, sym, ap, subst, ◌∙◌, arith, eq-eqb, ne_eqb, bytes_eq, cond, drop_of_length-le}
use Rattle.std.proofs.lemmas.Bool.{and_parts, or_parts, both_ways, not-true, and_from}
use Rattle.std.proofs.lemmas.List.{nil_from_length, reverse-append, reverse-reverse}
use Rattle.std.proofs.lemmas.List.Splits.{slice_split_at, slice_split_none}
use Rattle.std.proofs.lemmas.Slice.Eq.{bytes_eq-Decides}
use Rattle.std.specs.List.{list_all}
use Rattle.ignore_base.specs.Text.{is_slash}
use Rattle.ignore_base.specs.Paths.{IsName, LeavesThePath, components, directory_of, ends_with_slash, has_slash, is_absolute, is_proper, join_of, joined, offset_below}

-- a text is a name, as a test
abbrev pub is_name : List ℕ → Bool
is_name name = is_proper name && not (has_slash name)

-- each of them is a name
abbrev pub AreNames : List (List ℕ) → Type 0
AreNames [] = Unit {0}
AreNames (n ∷ ns) = (is_name n ≡ true) × AreNames ns

pub names-push : (ns : List (List ℕ)) (n : List ℕ) → AreNames ns → is_name n ≡ true → AreNames (ns ++ n ∷ [])
names-push [] n h e = (e, tt)
names-push (m ∷ ns) n h e = (h.0, names-push ns n h.1 e)

pub reverse-cons : (n : List ℕ) (b : List (List ℕ)) → reverse (n ∷ b) ≡ reverse b ++ n ∷ []
reverse-cons n b = reverse-append (n ∷ []) b

pub names-reverse : (b : List (List ℕ)) → AreNames b → AreNames (reverse b)
names-reverse [] h = tt
names-reverse (n ∷ b) h = subst AreNames (sym (reverse-cons n b)) (names-push (reverse b) n (names-reverse b h.1) h.0)

no_slash : (xs : List ℕ) → has_slash xs ≡ false → All (λ x. is_slash x ≡ false) xs
no_slash [] h k d l = absurd (omega (arith, l))
no_slash (x ∷ xs) h zero d l = (or_parts (is_slash x) (has_slash xs) h).0
no_slash (x ∷ xs) h (suc k) d l = no_slash xs (or_parts (is_slash x) (has_slash xs) h).1 k d (omega (arith, l))

proper-of : (n : List ℕ) → is_name n ≡ true → is_proper n ≡ true
proper-of n e = (and_parts (is_proper n) (not (has_slash n)) e).0

clear-of : (n : List ℕ) → is_name n ≡ true → has_slash n ≡ false
clear-of n e = not-true (has_slash n) (and_parts (is_proper n) (not (has_slash n)) e).1

pub name_from : (n : List ℕ) → is_name n ≡ true → IsName n
name_from n e =
    let a = and_parts (not (length n == 0) && not (bytes_eq n (codes "."))) (not (bytes_eq n (codes ".."))) (proper-of n e) in
    let b = and_parts (not (length n == 0)) (not (bytes_eq n (codes "."))) a.0 in
    record {
      filled = λ k. both_ways _ (not-true _ b.0) (eq-eqb _ 0 (ap length k));
      whole = λ w. both_ways _ (no_slash n (clear-of n e) w.0 47 w.1) (eq-eqb _ 47 w.2);
      no_dot = λ k. both_ways _ (not-true _ b.1) ((bytes_eq-Decides n (codes ".")).1 k);
      no_dots = λ k. both_ways _ (not-true _ a.1) ((bytes_eq-Decides n (codes "..")).1 k);
    }

pub all_names : (ns : List (List ℕ)) → AreNames ns → All IsName ns
all_names [] h k d l = absurd (omega (arith, l))
all_names (n ∷ ns) h zero d l = name_from n h.0
all_names (n ∷ ns) h (suc k) d l = all_names ns h.1 k d (omega (arith, l))

pub all_proper : (ns : List (List ℕ)) → AreNames ns → list_all is_proper ns ≡ true
all_proper [] h = refl
all_proper (n ∷ ns) h = and_from (is_proper n) (list_all is_proper ns) (proper-of n h.0) (all_proper ns h.1)

-- the components of joined names are the names
pub components-joined : (n : List ℕ) (ns : List (List ℕ)) → AreNames (n ∷ ns) → components (joined (n ∷ ns)) ≡ n ∷ ns
components-joined n [] h = slice_split_none is_slash n (no_slash n (clear-of n h.0))
components-joined n (m ∷ ns) h =
    slice_split_at is_slash n 47 (joined (m ∷ ns)) (no_slash n (clear-of n h.0)) refl
    ∙ ap (λ (l : List (List ℕ)). n ∷ l) (components-joined m ns h.1)

relative-front : (c : ℕ) (cs : List ℕ) (ns : List (List ℕ)) → is_slash c ≡ false → is_absolute (joined ((c ∷ cs) ∷ ns)) ≡ false
relative-front c cs [] e = e
relative-front c cs (m ∷ ns) e = e

-- they don't begin with a slash, and are some text
pub relative : (n : List ℕ) (ns : List (List ℕ)) → is_name n ≡ true → is_absolute (joined (n ∷ ns)) ≡ false
relative [] ns h = absurd (both_ways _ refl h)
relative (c ∷ cs) ns h = relative-front c cs ns (or_parts (is_slash c) (has_slash cs) (clear-of (c ∷ cs) h)).0

joined-filled : (c : ℕ) (cs : List ℕ) (ns : List (List ℕ)) → joined ((c ∷ cs) ∷ ns) ≢ []
joined-filled c cs [] e = cc (e)
joined-filled c cs (m ∷ ns) e = cc (e)

pub filled : (n : List ℕ) (ns : List (List ℕ)) → is_name n ≡ true → (length (joined (n ∷ ns)) == 0) ≡ false
filled [] ns h = absurd (both_ways _ refl h)
filled (c ∷ cs) ns h = ne_eqb (length (joined ((c ∷ cs) ∷ ns))) 0 (λ e. joined-filled c cs ns (nil_from_length (joined
    ((c ∷ cs) ∷ ns)) e))

-- a root isn't a path below it
offset-past : (root : List ℕ) → length root ≤ offset_below root
offset-past root = by (length root == 0 || ends_with_slash root)
  where
    by : (b : Bool) → length root ≤ cond b (length root) (length root + 1)
    by true = omega arith
    by false = omega arith

not_below : LeavesThePath → (root : List ℕ) (n : List ℕ) (ns : List (List ℕ)) → is_name n ≡ true
    → root ≡ join_of root (joined (n ∷ ns)) → ⊥
not_below law root n ns h e =
    let gone : drop (offset_below root) root ≡ [] = drop_of_length-le root (offset-past root) in
    let rest = sym gone ∙ (ap (drop (offset_below root)) e ∙ law root (joined (n ∷ ns)) (relative n ns h)) in
    both_ways _ (filled n ns h) (eq-eqb _ 0 (ap length (sym rest)))

-- the path of a directory below a root says which it is
directory-one : LeavesThePath → (root : List ℕ) (ns ms : List (List ℕ)) → AreNames ns → AreNames ms
    → directory_of root ns ≡ directory_of root ms → ns ≡ ms
directory-one law root [] [] h k e = refl
directory-one law root [] (m ∷ ms) h k e = absurd (not_below law root m ms k.0 e)
directory-one law root (n ∷ ns) [] h k e = absurd (not_below law root n ns h.0 (sym e))
directory-one law root (n ∷ ns) (m ∷ ms) h k e =
    let rest : joined (n ∷ ns) ≡ joined (m ∷ ms) =
    sym (law root (joined (n ∷ ns)) (relative n ns h.0)) ∙ (ap (drop (offset_below root)) e ∙ law root (joined (m ∷ ms))
    (relative m ms k.0)) in
    sym (components-joined n ns h) ∙ (ap components rest ∙ components-joined m ms k)

pub path-one : LeavesThePath → (root : List ℕ) (b c : List (List ℕ)) → AreNames b → AreNames c
    → directory_of root (reverse b) ≡ directory_of root (reverse c) → b ≡ c
path-one law root b c h k e =
    sym (reverse-reverse b)
    ∙ (ap reverse (directory-one law root (reverse b) (reverse c) (names-reverse b h) (names-reverse c k) e) ∙ reverse-reverse c)
