-- The directories that are kept, by their names, and how many of them are at or below one.
use lib.Pointwise.{pointwise}
use Rattle.std.proofs.Common.{◌≡◌, ◌≢◌, ℕ, ◌+◌, Bool, true, false, cond, not, All, List, [], ◌∷◌, filter, length, map, string_bytes}
use Rattle.std.proofs.Common.{refl, sym, ◌∙◌, ap, subst, arith, zero, suc, ◌&&◌, ◌||◌, Option, Some, is_some, take, ◌-◌}
use Rattle.std.proofs.Math.Logic.{∥∥₁_elim}
use Rattle.std.proofs.lemmas.Bool.{and_from, and_parts}
use Rattle.std.proofs.lemmas.List.Elements.{All-head, All-map, All-tail, All-weaker}
use Rattle.std.proofs.lemmas.List.Filters.{length-filter_both}
use Rattle.std.proofs.lemmas.Map.Keys.{IsDistinct-from_sorted}
use Rattle.std.proofs.lemmas.Map.Text.{is_eq-slice_cmp}
use Rattle.std.proofs.lemmas.Map.Views.{All-found}
use Rattle.std.proofs.lemmas.Slice.Eq.{bytes_eq-Decides, slice_eq-Decides}
use Rattle.std.specs.Cmp.{both_ways}
use Rattle.std.specs.BTreeMap.{IsOrdered, btree_map_len, get}
use Rattle.std.specs.Cmp.Lexicographic.{slice_cmp}
use Rattle.std.specs.List.{AllByRecursion, IsDistinct, list_all, list_any}
use Rattle.std.specs.Map.{keys_of, lookup}
use Rattle.std.specs.Ordering.{eq_by_cmp, is_eq, nat_cmp}
use Rattle.std.specs.Str.{bytes_eq}
use Rattle.std.specs.String.{string_cmp, string_cmp_total}
use native.Mathlib.Nat.{ℕ_set}
use mathlib.Core.Bool.{Bool-set}
use Rattle.ignore_base.specs.Paths.{IsName, components, is_proper, joined}
use Rattle.ignore_base.proofs.CleanLemmas.{components-joined, first_name, names-components, proper_each}
use Rattle.ignore_dir.specs.Chains.{slashed}
use Rattle.ignore_dir.specs.Query.{is_clean, names_of}
use Rattle.ignore_query.specs.declared.kept.Cache.{Cache}
use Rattle.ignore_query.specs.declared.kept.Kept.{Kept}
use Rattle.ignore_query.specs.Forget.{ListsKept, is_at_or_below, is_key_in}
use Rattle.ignore_query.specs.Keys.{AreKeys, IsKey, dirs_in, names_in}
use Rattle.ignore_query.proofs.EntryLemmas.{Entry, at_text}
use Rattle.ignore_query.proofs.ForgetLemmas.{joined-all, key_by_names}
use Rattle.ignore_query.proofs.KeyLemmas.{Map}
use Rattle.ignore_query.proofs.KnownLemmas.{without_end}

-- The names of a key.

begun : (n : List ℕ) (ns : List (List ℕ)) → n ≢ [] → joined (n ∷ ns) ≢ []
begun [] ns ne = absurd (ne refl)
begun (b ∷ bs) [] ne = λ e. cc
begun (b ∷ bs) (m ∷ ms) ne = λ e. cc

some_names : (path : List ℕ) → path ≢ [] → names_of path ≡ components path
some_names [] ne = absurd (ne refl)
some_names (b ∷ bs) ne = refl

pub names_key : (names : List (List ℕ)) → All IsName names → names_in (slashed names) ≡ names
names_key [] h = refl
names_key (n ∷ ns) h =
    ap names_of (without_end (slashed (n ∷ ns)) (joined (n ∷ ns)) (47 ∷ []) 1 (joined-all n ns) refl)
    ∙ (some_names (joined (n ∷ ns)) (begun n ns (first_name n ns h).filled) ∙ components-joined n ns h)

at_dir : (dir key : List ℕ) → is_clean dir ≡ true → IsKey key → is_key_in dir key ≡ is_at_or_below (names_of dir) (names_in key)
at_dir dir key clean k =
    ap (is_key_in dir) k.2
    ∙ (key_by_names dir k.0 clean k.1 ∙ ap (is_at_or_below (names_of dir)) (sym (names_key k.0 k.1) ∙ ap names_in (sym k.2)))

-- The keys of all entries.

pub keys_all : (m : Map) → IsOrdered string_cmp m → AreKeys m → All (λ e. IsKey (string_bytes e.0)) m.entries
keys_all m ordered are =
    All-weaker (λ e. get string_cmp m e.0 ≡ Some e.1) (λ e. IsKey (string_bytes e.0)) (λ e h. are (string_bytes e.0) e.1 h) m.entries
    (All-found string_cmp_total m ordered)

-- Their number.

one_more : {A B : Type 0} (p q : Bool) (x : A) (y : B) (xs : List A) (ys : List B) → p ≡ q → length xs ≡ length ys
    → length (cond p (x ∷ xs) xs) ≡ length (cond q (y ∷ ys) ys)
one_more true true x y xs ys e h = omega (arith, h)
one_more false false x y xs ys e h = h
one_more true false x y xs ys e h = absurd (cc)
one_more false true x y xs ys e h = absurd (cc)

as_many : (es : List Entry) (dir : List ℕ) → is_clean dir ≡ true → All (λ e. IsKey (string_bytes e.0)) es
    → length (filter (λ e. is_key_in dir (string_bytes e.0)) es)
    ≡ length (filter (is_at_or_below (names_of dir)) (map (λ e. names_in (string_bytes e.0)) es))
as_many [] dir clean all = refl
as_many (e ∷ es) dir clean all =
    one_more _ _ e (names_in (string_bytes e.0)) _ _
    (at_dir dir (string_bytes e.0) clean (All-head (λ x. IsKey (string_bytes x.0)) e es all))
    (as_many es dir clean (All-tail (λ x. IsKey (string_bytes x.0)) e es all))

pub forgotten_sum : (m left : Map) (dir : List ℕ) → is_clean dir ≡ true → ∥ AreKeys m ∥₁ → IsOrdered string_cmp m
    → left.entries ≡ filter (λ e. not (is_key_in dir (string_bytes e.0))) m.entries
    → length (filter (is_at_or_below (names_of dir)) (dirs_in m)) + btree_map_len left ≡ btree_map_len m
forgotten_sum m left dir clean keys ordered is = ∥∥₁_elim keys (ℕ_set _ _) (λ are.
    let inside : Entry → Bool = λ e. is_key_in dir (string_bytes e.0) in
    ap (λ n. n + length left.entries) (sym (as_many m.entries dir clean (keys_all m ordered are)))
    ∙ (ap (λ (es : List Entry). length (filter inside m.entries) + length es) is
    ∙ length-filter_both inside (λ e. not (inside e)) (λ e. refl) m.entries))

-- Each is listed once.

pub names_are : (key : List ℕ) (k : IsKey key) → names_in key ≡ k.0
names_are key k = ap names_in k.2 ∙ names_key k.0 k.1

key_back : (key : List ℕ) → IsKey key → slashed (names_in key) ≡ key
key_back key k = ap slashed (names_are key k) ∙ sym k.2

one_key : (names : List (List ℕ)) (key : List ℕ) → All IsName names → IsKey key
    → is_eq (slice_cmp nat_cmp (slashed names) key) ≡ pointwise bytes_eq names (names_in key)
one_key names key named k =
    let same = slice_eq-Decides bytes_eq-Decides names (names_in key) (pointwise bytes_eq names (names_in key)) refl in
    let text = bytes_eq-Decides (slashed names) key in
    is_eq-slice_cmp (slashed names) key
    ∙ both_ways (bytes_eq (slashed names) key) (pointwise bytes_eq names (names_in key))
    (λ e. same.1 (sym (names_key names named) ∙ ap names_in (text.0 e))) (λ e. text.1 (ap slashed (same.0 e) ∙ key_back key k))

some_or : (b : Bool) (k : Kept) (o : Option Kept) → (b || is_some o) ≡ is_some (cond b (Some k) o)
some_or true k o = refl
some_or false k o = refl

listed : (names : List (List ℕ)) (es : List Entry) → All IsName names → All (λ e. IsKey (string_bytes e.0)) es
    → list_any (pointwise bytes_eq names) (map (λ e. names_in (string_bytes e.0)) es) ≡ is_some (lookup (at_text (slashed names)) es)
listed names [] named all = refl
listed names (e ∷ es) named all =
    let P : Entry → Type 0 = λ x. IsKey (string_bytes x.0) in
    ap (λ b. b || list_any (pointwise bytes_eq names) (map (λ x. names_in (string_bytes x.0)) es))
    (sym (one_key names (string_bytes e.0) named (All-head P e es all)))
    ∙ (ap (λ b. at_text (slashed names) e.0 || b) (listed names es named (All-tail P e es all))
    ∙ some_or (at_text (slashed names) e.0) e.1 (lookup (at_text (slashed names)) es))

apart : (e : Entry) (es : List Entry) → IsKey (string_bytes e.0) → All (λ e. IsKey (string_bytes e.0)) es
    → AllByRecursion (λ y. eq_by_cmp string_cmp e.0 y ≡ false) (keys_of es)
    → AllByRecursion (λ y. pointwise bytes_eq (names_in (string_bytes e.0)) y ≡ false) (map (λ e. names_in (string_bytes e.0)) es)
apart e [] k all d = d
apart e (f ∷ fs) k all d =
    let P : Entry → Type 0 = λ x. IsKey (string_bytes x.0) in
    let named = subst (All IsName) (sym (names_are (string_bytes e.0) k)) k.1 in (
      sym (one_key (names_in (string_bytes e.0)) (string_bytes f.0) named (All-head P f fs all))
          ∙ (ap (λ t. is_eq (slice_cmp nat_cmp t (string_bytes f.0))) (key_back (string_bytes e.0) k) ∙ d.0),
      apart e fs k (All-tail P f fs all) d.1,
    )

distinct : (es : List Entry) → All (λ e. IsKey (string_bytes e.0)) es → IsDistinct (eq_by_cmp string_cmp) (keys_of es)
    → IsDistinct (pointwise bytes_eq) (map (λ e. names_in (string_bytes e.0)) es)
unfolding IsDistinct
distinct [] all d = d
distinct (e ∷ es) all d =
    let P : Entry → Type 0 = λ x. IsKey (string_bytes x.0) in
    (apart e es (All-head P e es all) (All-tail P e es all) d.0, distinct es (All-tail P e es all) d.1)

proper : Entry → Bool
proper e = list_all is_proper (names_in (string_bytes e.0))

proper_one : (e : Entry) → IsKey (string_bytes e.0) → proper e ≡ true
unfolding proper
proper_one e k = ap (list_all is_proper) (names_are (string_bytes e.0) k) ∙ proper_each k.0 k.1

named_of : (path : List ℕ) → list_all is_proper (names_of path) ≡ true → All IsName (names_of path)
named_of [] h = λ k d l. absurd (omega (arith, l))
named_of (b ∷ bs) h = names-components (b ∷ bs) h

proper_names : (e : Entry) → proper e ≡ true → All IsName (names_in (string_bytes e.0))
unfolding proper
proper_names e h = let key = string_bytes e.0 in named_of (take (length key - 1) key) h

-- whether a key is that of a directory, by a test
is_key : Entry → Bool
is_key e = proper e && bytes_eq (slashed (names_in (string_bytes e.0))) (string_bytes e.0)

keys_test : (es : List Entry) → All (λ e. IsKey (string_bytes e.0)) es → list_all is_key es ≡ true
unfolding is_key
keys_test [] all = refl
keys_test (e ∷ es) all =
    let P : Entry → Type 0 = λ x. IsKey (string_bytes x.0) in
    let k = All-head P e es all in
    let key = string_bytes e.0 in
    and_from (is_key e) (list_all is_key es) (and_from (proper e) (bytes_eq (slashed (names_in key)) key) (proper_one e k)
    ((bytes_eq-Decides (slashed (names_in key)) key).1 (key_back key k))) (keys_test es (All-tail P e es all))

keys_from : (es : List Entry) → list_all is_key es ≡ true → All (λ e. IsKey (string_bytes e.0)) es
unfolding is_key
keys_from [] h k d l = absurd (omega (arith, l))
keys_from (e ∷ es) h zero d l =
    let key = string_bytes e.0 in
    let both = and_parts (proper e) (bytes_eq (slashed (names_in key)) key) (and_parts (is_key e) (list_all is_key es) h).0 in
    (names_in key, proper_names e both.0, sym ((bytes_eq-Decides (slashed (names_in key)) key).0 both.1))
keys_from (e ∷ es) h (suc k) d l = keys_from es (and_parts (is_key e) (list_all is_key es) h).1 k d (omega (arith, l))

pub keys_sure : (c : Cache) → IsOrdered string_cmp c.dirs.map → All (λ e. IsKey (string_bytes e.0)) c.dirs.map.entries
keys_sure c ordered =
    let es = c.dirs.map.entries in
    keys_from es (∥∥₁_elim c.dirs.keys (Bool-set _ _) (λ are. keys_test es (keys_all c.dirs.map ordered are)))

named_all : (es : List Entry) → All (λ e. IsKey (string_bytes e.0)) es → All (All IsName) (map (λ e. names_in (string_bytes e.0)) es)
named_all es all =
    let name : Entry → List (List ℕ) = λ e. names_in (string_bytes e.0) in
    All-map (All IsName) name es
    (All-weaker (λ e. IsKey (string_bytes e.0)) (λ e. All IsName (name e)) (λ e k. subst (All IsName) (sym (names_are (string_bytes e.0) k)) k.1) es all)

pub lists_kept : (c : Cache) → IsOrdered string_cmp c.dirs.map → ListsKept c
lists_kept c ordered =
    let es = c.dirs.map.entries in
    let keys = keys_sure c ordered in record {
      once = distinct es keys (IsDistinct-from_sorted string_cmp (keys_of es) ordered);
      each = λ names named. listed names es named keys;
      named = named_all es keys;
    }
