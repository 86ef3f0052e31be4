-- Rules of files in the order of files and lines, and which of them are left without others.
use Rattle.std.proofs.Common.{◌≡◌, ◌∙◌, ◌⊎◌, not, ℕ, suc, zero, All, Bool, true, false, cond, List, [], ◌∷◌, ◌++◌, map, Contains, Option, None, Some, is_some, option_map, string_bytes, refl, sym, ap, subst, inl, inr, arith}
use Rattle.std.proofs.lemmas.Cmp.{nat_cmp_total, ranked}
use Rattle.std.proofs.lemmas.List.Elements.{All-contains, All-head, All-tail}
use Rattle.std.proofs.lemmas.Map.Text.{is_eq-slice_cmp}
use Rattle.std.proofs.lemmas.Map.Views.{All-found}
use Rattle.std.proofs.lemmas.Slice.Eq.{bytes_eq-Decides}
use Rattle.std.specs.BTreeMap.{BTreeMap, IsOrdered, get, get_by_text, is_at}
use Rattle.std.specs.Cmp.Lexicographic.{slice_cmp}
use Rattle.std.specs.List.{AllByRecursion, filter, flat_map}
use Rattle.std.specs.List.Sorted.{IsStrictlySortedBy}
use Rattle.std.specs.Map.{keys_of, lookup}
use Rattle.std.specs.Ordering.{is_eq, is_lt, nat_cmp}
use Rattle.std.specs.String.{string_cmp, string_cmp_total}
use Rattle.std.specs.declared.cmp.Ordering.{Ordering}
use Rattle.std.specs.declared.cmp.Ordering.TheVariants.{Less, Equal, Greater}
use Rattle.std.specs.declared.string.String.{String}
use Rattle.ig_commands.specs.Rules.{AreWithout, all_left, file_rule, is_free, left_of, line_of, rule_at}
use Rattle.ig_commands.specs.Unused.{AreInOrder, ComesBefore, FileRule}
use Rattle.ig_commands.specs.declared.rules.FileRules.{FileRules}

-- ---- what holds of each
by_append : {X : Type 0} (P : X → Type 0) (xs ys : List X) → AllByRecursion P xs → AllByRecursion P ys → AllByRecursion P (xs ++ ys)
by_append P [] ys h k = k
by_append P (x ∷ xs) ys h k = (h.0, by_append P xs ys h.1 k)

by_weaker : {X : Type 0} (P Q : X → Type 0) (xs : List X) → ((x : X) → P x → Q x) → AllByRecursion P xs → AllByRecursion Q xs
by_weaker P Q [] f h = tt
by_weaker P Q (x ∷ xs) f h = (f x h.0, by_weaker P Q xs f h.1)

by_kept : {X : Type 0} (P : X → Type 0) (x : X) (xs : List X) (b : Bool) → P x → AllByRecursion P xs → AllByRecursion P (cond b (x ∷ xs) xs)
by_kept P x xs true h k = (h, k)
by_kept P x xs false h k = k

by_filter : {X : Type 0} (P : X → Type 0) (p : X → Bool) (xs : List X) → AllByRecursion P xs → AllByRecursion P (filter p xs)
by_filter P p [] h = tt
by_filter P p (x ∷ xs) h = by_kept P x (filter p xs) (p x) h.0 (by_filter P p xs h.1)

by_all : {X : Type 0} (P : X → Type 0) (xs : List X) → All P xs → AllByRecursion P xs
by_all P [] h = tt
by_all P (x ∷ xs) h = (All-head P x xs h, by_all P xs (All-tail P x xs h))

-- ---- rules each of which comes before all after it
abbrev Sorted : List FileRule → Type 0
Sorted [] = Unit {0}
Sorted (r ∷ rs) = AllByRecursion (ComesBefore r) rs × Sorted rs

in_order : (rs : List FileRule) → Sorted rs → AreInOrder rs
in_order [] h = tt
in_order (a ∷ []) h = tt
in_order (a ∷ (b ∷ rs)) h = (h.0.0, in_order (b ∷ rs) h.1)

sorted_kept : (r : FileRule) (rs : List FileRule) (b : Bool) → AllByRecursion (ComesBefore r) rs → Sorted rs → Sorted (cond b (r ∷ rs) rs)
sorted_kept r rs true h k = (h, k)
sorted_kept r rs false h k = k

sorted_filter : (p : FileRule → Bool) (rs : List FileRule) → Sorted rs → Sorted (filter p rs)
sorted_filter p [] h = tt
sorted_filter p (r ∷ rs) h = sorted_kept r (filter p rs) (p r) (by_filter (ComesBefore r) p rs h.0) (sorted_filter p rs h.1)

sorted_append : (rs qs : List FileRule) → Sorted rs → Sorted qs → AllByRecursion (λ r. AllByRecursion (ComesBefore r) qs) rs → Sorted (rs ++ qs)
sorted_append [] qs h k before = k
sorted_append (r ∷ rs) qs h k before =
    (by_append (ComesBefore r) rs qs h.0 before.0, sorted_append rs qs h.1 k before.1)

-- ---- the lines of a file, and the files
-- a rule of an earlier file comes before those of later ones
before_source : (r q : FileRule) (a b : List ℕ) → r.source ≡ a → slice_cmp nat_cmp a b ≡ Less → q.source ≡ b → ComesBefore r q
before_source r q a b is less its =
    inl (ap is_lt (ap (λ (x : List ℕ). slice_cmp nat_cmp x q.source) is ∙ (ap (slice_cmp nat_cmp a) its ∙ less)))

module _ {Y : Type 0} where
  before_lines : (source text : List ℕ) (n : ℕ) (es : List (ℕ × String Y)) → AllByRecursion (λ k. nat_cmp n k ≡ Less) (keys_of es)
      → AllByRecursion (ComesBefore (file_rule source n text)) (map (λ e. file_rule source e.0 (string_bytes e.1)) es)
  before_lines source text n [] h = tt
  before_lines source text n (e ∷ es) h = (inr (refl, ranked n e.0 Less (sym h.0)), before_lines source text n es h.1)

  sorted_lines : (source : List ℕ) (es : List (ℕ × String Y)) → IsStrictlySortedBy nat_cmp (keys_of es)
      → Sorted (map (λ e. file_rule source e.0 (string_bytes e.1)) es)
  unfolding IsStrictlySortedBy
  sorted_lines source [] h = tt
  sorted_lines source (e ∷ es) h = (before_lines source (string_bytes e.1) e.0 es h.0, sorted_lines source es h.1)

  of_source : (source : List ℕ) (es : List (ℕ × String Y))
      → AllByRecursion (λ (r : FileRule). r.source ≡ source) (map (λ e. file_rule source e.0 (string_bytes e.1)) es)
  of_source source [] = tt
  of_source source (e ∷ es) = (refl, of_source source es)

module _ {Y : Type 0} (others : FileRules) where
  left_of_source : (source : List ℕ) (es : List (ℕ × String Y)) → AllByRecursion (λ (r : FileRule). r.source ≡ source) (left_of others source es)
  left_of_source source es =
      by_filter (λ (r : FileRule). r.source ≡ source) (is_free others) (map (λ e. file_rule source e.0 (string_bytes e.1)) es) (of_source source es)

  before_files : {X : Type 0} (r : FileRule) (k : String X) (fs : List (String X × BTreeMap ℕ (String Y))) → r.source ≡ string_bytes k
      → AllByRecursion (λ (j : String X). string_cmp k j ≡ Less) (keys_of fs) → AllByRecursion (ComesBefore r) (all_left others fs)
  before_files r k [] is h = tt
  before_files r k (f ∷ fs) is h =
      by_append (ComesBefore r) (left_of others (string_bytes f.0) f.1.entries) (all_left others fs)
      (by_weaker (λ (q : FileRule). q.source ≡ string_bytes f.0) (ComesBefore r) (left_of others (string_bytes f.0) f.1.entries)
      (λ q its. before_source r q (string_bytes k) (string_bytes f.0) is h.0 its)
      (left_of_source (string_bytes f.0) f.1.entries))
      (before_files r k fs is h.1)

  sorted_files : {X : Type 0} (fs : List (String X × BTreeMap ℕ (String Y))) → IsStrictlySortedBy string_cmp (keys_of fs)
      → AllByRecursion (λ (f : String X × BTreeMap ℕ (String Y)). IsOrdered nat_cmp f.1) fs → Sorted (all_left others fs)
  unfolding IsStrictlySortedBy
  sorted_files [] h k = tt
  sorted_files (f ∷ fs) h k =
      sorted_append (left_of others (string_bytes f.0) f.1.entries) (all_left others fs)
      (sorted_filter (is_free others) (map (λ e. file_rule (string_bytes f.0) e.0 (string_bytes e.1)) f.1.entries)
      (sorted_lines (string_bytes f.0) f.1.entries k.0))
      (sorted_files fs h.1 k.1)
      (by_weaker (λ (r : FileRule). r.source ≡ string_bytes f.0) (λ r. AllByRecursion (ComesBefore r) (all_left others fs))
      (left_of others (string_bytes f.0) f.1.entries) (λ r is. before_files r f.0 fs is h.0)
      (left_of_source (string_bytes f.0) f.1.entries))

-- ---- members
abbrev In : {X : Type 0} → List X → X → Type 0
In [] x = ⊥
In (y ∷ ys) x = (y ≡ x) ⊎ In ys x

to_in : {X : Type 0} (xs : List X) (x : X) → Contains xs x → In xs x
to_in [] x (k, within, is) = absurd (omega (arith, within))
to_in (y ∷ ys) x (zero, within, is) = inl is
to_in (y ∷ ys) x (suc k, within, is) = inr (to_in ys x (k, omega (arith, within), is))

from_in : {X : Type 0} (xs : List X) (x : X) → In xs x → Contains xs x
from_in [] x h = absurd h
from_in (y ∷ ys) x (inl is) = (0, omega arith, is)
from_in (y ∷ ys) x (inr h) = let k = from_in ys x h in (suc k.0, omega (arith, k.1), k.2)

in_append_left : {X : Type 0} (xs ys : List X) (x : X) → In xs x → In (xs ++ ys) x
in_append_left [] ys x h = absurd h
in_append_left (y ∷ xs) ys x (inl is) = inl is
in_append_left (y ∷ xs) ys x (inr h) = inr (in_append_left xs ys x h)

in_append_right : {X : Type 0} (xs ys : List X) (x : X) → In ys x → In (xs ++ ys) x
in_append_right [] ys x h = h
in_append_right (y ∷ xs) ys x h = inr (in_append_right xs ys x h)

in_append : {X : Type 0} (xs ys : List X) (x : X) → In (xs ++ ys) x → In xs x ⊎ In ys x
in_append [] ys x h = inr h
in_append (y ∷ xs) ys x (inl is) = inl (inl is)
in_append (y ∷ xs) ys x (inr h) = elim (in_append xs ys x h) [ inl k ↦ inl (inr k) | inr k ↦ inr k ]

module _ {X : Type 0} (p : X → Bool) (y x : X) (ys : List X) where
  in_kept : (b : Bool) → p y ≡ b → (In (filter p ys) x → In ys x × (p x ≡ true)) → In (cond b (y ∷ filter p ys) (filter p ys)) x
      → In (y ∷ ys) x × (p x ≡ true)
  in_kept true e f (inl is) = (inl is, ap p (sym is) ∙ e)
  in_kept true e f (inr h) = let r = f h in (inr r.0, r.1)
  in_kept false e f h = let r = f h in (inr r.0, r.1)

  kept_back : (b : Bool) → p y ≡ b → In (y ∷ ys) x → p x ≡ true → (In ys x → In (filter p ys) x)
      → In (cond b (y ∷ filter p ys) (filter p ys)) x
  kept_back true e (inl is) k f = inl is
  kept_back true e (inr h) k f = inr (f h)
  kept_back false e (inl is) k f = let same : p y ≡ p x = ap p is in cc (same, e, k)
  kept_back false e (inr h) k f = f h

in_filter : {X : Type 0} (p : X → Bool) (xs : List X) (x : X) → In (filter p xs) x → In xs x × (p x ≡ true)
in_filter p [] x h = absurd h
in_filter p (y ∷ ys) x h = in_kept p y x ys (p y) refl (in_filter p ys x) h

in_filter_back : {X : Type 0} (p : X → Bool) (xs : List X) (x : X) → In xs x → p x ≡ true → In (filter p xs) x
in_filter_back p [] x h k = absurd h
in_filter_back p (y ∷ ys) x h k = kept_back p y x ys (p y) refl h k (λ m. in_filter_back p ys x m k)

in_map : {X Y : Type 0} (f : X → Y) (xs : List X) (y : Y) → In (map f xs) y → (x : X) × In xs x × (f x ≡ y)
in_map f [] y h = absurd h
in_map f (x ∷ xs) y (inl is) = (x, inl refl, is)
in_map f (x ∷ xs) y (inr h) = let r = in_map f xs y h in (r.0, inr r.1, r.2)

in_map_back : {X Y : Type 0} (f : X → Y) (xs : List X) (x : X) → In xs x → In (map f xs) (f x)
in_map_back f [] x h = absurd h
in_map_back f (y ∷ ys) x (inl is) = inl (ap f is)
in_map_back f (y ∷ ys) x (inr h) = inr (in_map_back f ys x h)

in_flat : {X Y : Type 0} (f : X → List Y) (xs : List X) (y : Y) → In (flat_map f xs) y → (x : X) × In xs x × In (f x) y
in_flat f [] y h = absurd h
in_flat f (x ∷ xs) y h =
    elim (in_append (f x) (flat_map f xs) y h) [
      | inl k ↦ (x, inl refl, k)
      | inr k ↦ let r = in_flat f xs y k in (r.0, inr r.1, r.2)
    ]

in_flat_back : {X Y : Type 0} (f : X → List Y) (xs : List X) (x : X) (y : Y) → In xs x → In (f x) y → In (flat_map f xs) y
in_flat_back f [] x y h k = absurd h
in_flat_back f (z ∷ xs) x y (inl is) k =
    in_append_left (f z) (flat_map f xs) y (subst (λ w. In (f w) y) (sym is) k)
in_flat_back f (z ∷ xs) x y (inr h) k = in_append_right (f z) (flat_map f xs) y (in_flat_back f xs x y h k)

-- what a look-up finds is a member
look : {K X : Type 0} (test : K → Bool) (e : K × X) (es : List (K × X)) (v : X) (b : Bool) → test e.0 ≡ b
    → (lookup test es ≡ Some v → (k : K) × In es (k, v) × (test k ≡ true)) → cond b (Some e.1) (lookup test es) ≡ Some v
    → (k : K) × In (e ∷ es) (k, v) × (test k ≡ true)
look test e es v true t f h = let is : e.1 ≡ v = cc h in (e.0, inl (λ j. (e.0, is j)), t)
look test e es v false t f h = let r = f h in (r.0, inr r.1, r.2)

in_lookup : {K X : Type 0} (test : K → Bool) (es : List (K × X)) (v : X) → lookup test es ≡ Some v
    → (k : K) × In es (k, v) × (test k ≡ true)
in_lookup test [] v h = cc h
in_lookup test (e ∷ es) v h = look test e es v (test e.0) refl (in_lookup test es v) h

equal : (m n : ℕ) (o : Ordering) → o ≡ nat_cmp m n → is_eq o ≡ true → m ≡ n
equal m n Less e h = cc h
equal m n Equal e h = ranked m n Equal e
equal m n Greater e h = cc h

none_free : (o : Option (List ℕ)) → not (is_some o) ≡ true → o ≡ None
none_free None h = refl
none_free (Some x) h = cc h

free_none : (o : Option (List ℕ)) → o ≡ None → not (is_some o) ≡ true
free_none None e = refl
free_none (Some x) e = cc e

-- ---- what stands at a line of a file, by the tables
module _ {X Y : Type 0} (others : FileRules) (files : BTreeMap (String X) (BTreeMap ℕ (String Y))) where
  forward : IsOrdered string_cmp files → All (λ f. IsOrdered nat_cmp f.1) files.entries → (r : FileRule) → In (all_left others files.entries) r
      → (line_of (get_by_text files r.source) r.line ≡ Some r.pattern) × (rule_at others r.source r.line ≡ None)
  forward in_files in_lines r h =
      let f = in_flat (λ (f : String X × BTreeMap ℕ (String Y)). left_of others (string_bytes f.0) f.1.entries) files.entries r h in
      let l = in_filter (is_free others) (map (λ (e : ℕ × String Y). file_rule (string_bytes f.0.0) e.0 (string_bytes e.1)) f.0.1.entries) r f.2 in
      let e = in_map (λ (e : ℕ × String Y). file_rule (string_bytes f.0.0) e.0 (string_bytes e.1)) f.0.1.entries r l.0 in
      let of_file = from_in files.entries f.0 f.1 in
      let file : get string_cmp files f.0.0 ≡ Some f.0.1 =
      All-contains (λ p. get string_cmp files p.0 ≡ Some p.1) files.entries f.0 (All-found string_cmp_total files in_files) of_file in
      let ordered : IsOrdered nat_cmp f.0.1 = All-contains (λ p. IsOrdered nat_cmp p.1) files.entries f.0 in_lines of_file in
      let line : get nat_cmp f.0.1 e.0.0 ≡ Some e.0.1 =
      All-contains (λ p. get nat_cmp f.0.1 p.0 ≡ Some p.1) f.0.1.entries e.0 (All-found nat_cmp_total f.0.1 ordered)
      (from_in f.0.1.entries e.0 e.1) in (
        subst (λ (q : FileRule). line_of (get_by_text files q.source) q.line ≡ Some q.pattern) e.2
            (ap (λ (o : Option (BTreeMap ℕ (String Y))). line_of o e.0.0) file ∙ ap (λ (o : Option (String Y)). option_map string_bytes o) line),
        none_free (rule_at others r.source r.line) l.1,
      )

  at_line : (r : FileRule) (file : BTreeMap ℕ (String Y)) → get_by_text files r.source ≡ Some file → (o : Option (String Y))
      → get nat_cmp file r.line ≡ o → option_map string_bytes o ≡ Some r.pattern → is_free others r ≡ true → In (all_left others files.entries) r
  at_line r file is None e h free = cc h
  at_line r file is (Some v) e h free =
      let f = in_lookup (is_at (λ (k : String X). slice_cmp nat_cmp r.source (string_bytes k))) files.entries file is in
      let l = in_lookup (is_at (nat_cmp r.line)) file.entries v e in
      let source : r.source ≡ string_bytes f.0 =
      (bytes_eq-Decides r.source (string_bytes f.0)).0 (sym (is_eq-slice_cmp r.source (string_bytes f.0)) ∙ f.2) in
      let line : r.line ≡ l.0 = equal r.line l.0 (nat_cmp r.line l.0) refl l.2 in
      let pattern : string_bytes v ≡ r.pattern = cc h in
      let same : file_rule (string_bytes f.0) l.0 (string_bytes v) ≡ r =
      λ j. record { source = sym source j; line = sym line j; pattern = pattern j } in
      let lines = map (λ (e : ℕ × String Y). file_rule (string_bytes f.0) e.0 (string_bytes e.1)) file.entries in
      in_flat_back (λ (f : String X × BTreeMap ℕ (String Y)). left_of others (string_bytes f.0) f.1.entries) files.entries (f.0, file) r f.1
      (in_filter_back (is_free others) lines r
      (subst (λ (q : FileRule). In lines q) same
      (in_map_back (λ (e : ℕ × String Y). file_rule (string_bytes f.0) e.0 (string_bytes e.1)) file.entries (l.0, v) l.1)) free)

  at_file : (r : FileRule) (o : Option (BTreeMap ℕ (String Y))) → get_by_text files r.source ≡ o → line_of o r.line ≡ Some r.pattern
      → is_free others r ≡ true → In (all_left others files.entries) r
  at_file r None is h free = cc h
  at_file r (Some file) is h free = at_line r file is (get nat_cmp file r.line) refl h free

-- the rules of ordered tables, without others
pub without : (rules others : FileRules) → IsOrdered string_cmp rules.files → All (λ f. IsOrdered nat_cmp f.1) rules.files.entries
    → AreWithout rules others (all_left others rules.files.entries)
without rules others in_files in_lines = record {
  are = λ r. (
    (λ h. forward others rules.files in_files in_lines r (to_in (all_left others rules.files.entries) r h)),
    (λ h. from_in (all_left others rules.files.entries) r
        (at_file others rules.files r (get_by_text rules.files r.source) refl h.0
        (free_none (rule_at others r.source r.line) h.1))),
  );
  in_order = in_order (all_left others rules.files.entries)
      (sorted_files others rules.files.entries in_files (by_all (λ f. IsOrdered nat_cmp f.1) rules.files.entries in_lines));
}
