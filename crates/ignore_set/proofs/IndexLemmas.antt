-- What the tables and the others of an index say together.
use Rattle.std.proofs.Common.{◌≡◌, ◌⊎◌, ℕ, zero, suc, ◌+◌, ◌-◌, ◌<◌, ◌≤◌, max, Bool, List, [], ◌∷◌, ◌++◌, length, map, take}
use Rattle.std.proofs.Common.{drop, get_or, slice_get, Option, Some, None, IfSome, SomeIff, refl, sym, ap, subst, ◌∙◌, inl, inr}
use Rattle.std.proofs.Common.{arith, append_assoc}
use Rattle.std.specs.Str.{chars, IsUtf8}
use Rattle.std.proofs.lemmas.List.{get_or-drop, get_or-map, length-drop, length-map}
use Rattle.std.proofs.lemmas.Option.{slice_get-get_or, slice_get_within}
use Rattle.std.proofs.lemmas.Str.{IsCharBoundary-at_seam, IsUtf8-append, IsUtf8-take}
use Rattle.std.proofs.Math.Seq.{take-append_seam}
use Rattle.ignore_glob.specs.Forms.{Form, whole, name, ending, other, form_of}
use Rattle.ignore_set.specs.declared.index.Index.{Index}
use Rattle.ignore_set.specs.declared.table.Table.{Table}
use Rattle.ignore_set.specs.declared.text.Ending.{Ending}
use Rattle.ignore_set.specs.declared.text.Ending.TheVariants.{Name, End}
use Rattle.ignore_glob.specs.Ends.{HasEnd, HasName}
use Rattle.ignore_set.specs.Index.{Fits, IsMarked, IsNoted, IsTableOf, IsIndexOf, IsExactOf, StandsUnderEnd, slot_at, after}
use Rattle.ignore_set.specs.Others.{IsFoundFrom}
use Rattle.ignore_set.specs.Sets.{Member, Applies, IsLastMatch}
use Rattle.ignore_glob.proofs.FormLemmas.{slash_byte, whole_matches, matches_whole, name_matches, matches_name, end_matches, matches_end}

-- Ends of a text.

pub front_utf8 : (text front key : List ℕ) → IsUtf8 text → IsUtf8 key → text ≡ front ++ key → IsUtf8 front
front_utf8 text front key utf8 spelt cut =
    subst IsUtf8 (ap (λ l. take (length front) l) cut ∙ take-append_seam front key)
    (IsUtf8-take text (length front) utf8 (IsCharBoundary-at_seam text front key cut spelt))

name_fits : (text key : List ℕ) → IsUtf8 text → IsUtf8 key → (text ≡ key) ⊎ ((front : List ℕ) × (text ≡ front ++ 47 ∷ key))
    → HasName key text
name_fits text key utf8 spelt (inl e) = inl e
name_fits text key utf8 spelt (inr (front, cut)) =
    inr (front, front_utf8 text front (47 ∷ key) utf8 (IsUtf8-append (47 ∷ []) key (47 ∷ [], (refl, slash_byte)) spelt) cut, cut)

-- The tables.

pub exact_above : (index : Index) (text : List ℕ) (is_dir : Bool) (ms : List Member) (n e r : ℕ) → IsUtf8 text → IsIndexOf index ms
    → ((end : List ℕ) → HasName end text → IsUtf8 end → IsNoted index.names end
    → after is_dir (slot_at index.names end) ≤ n)
    → ((end : List ℕ) → HasEnd end text → IsUtf8 end → IsNoted index.ends end
    → after is_dir (slot_at index.ends end) ≤ e)
    → (IsMarked index.whole text → after is_dir (slot_at index.whole text) ≤ r) → n ≤ r → e ≤ r
    → (i : ℕ) (m : Member) → slice_get ms i ≡ Some m → Applies (chars text) is_dir m → (form_of m.reading ≡ other → ⊥) → i < r
exact_above index text is_dir ms n e r utf8 is names ends w-r n-r e-r i m g a formed = by_form (form_of m.reading) refl
  where
    by_form : (f : Form) → form_of m.reading ≡ f → i < r
    by_form (whole key) form =
        let same = matches_whole m.reading key text form utf8 a.1 in
        let marked = subst (λ t. IsMarked index.whole t) (sym same) (is.whole.noted i m key g form).1.1 in
        omega (arith, w-r marked, (is.whole.slots is_dir text).above i m g (form ∙ ap whole (sym same), a.0))
    by_form (name key) form =
        let long = is.names.noted i m key g form in
        let fits = name_fits text key utf8 long.0 (matches_name m.reading key text form utf8 a.1) in
        omega (arith, n-r, names key fits long.0 long.1, (is.names.slots is_dir key).above i m g (form, a.0))
    by_form (ending key) form =
        let long = is.ends.noted i m key g form in
        let cut = matches_end m.reading key text form utf8 a.1 in
        omega (
          arith,
          e-r,
          ends key (cut.0, front_utf8 text cut.0 key utf8 long.0 cut.1, cut.1) long.0 long.1,
          (is.ends.slots is_dir key).above i m g (form, a.0),
        )
    by_form other form = absurd (formed form)

-- n is one more than the index of a pattern that applies, or 0
abbrev pub Stands : List ℕ → Bool → List Member → ℕ → Type 0
Stands text is_dir ms n = (n ≡ 0) ⊎ ((i : ℕ) × (m : Member) × (n ≡ i + 1) × (slice_get ms i ≡ Some m) × Applies text is_dir m)

max_either : (a b : ℕ) → (max a b ≡ a) ⊎ (max a b ≡ b)
max_either a b = grind arith

pub stands_max : (text : List ℕ) (is_dir : Bool) (ms : List Member) (a b : ℕ) → Stands text is_dir ms a
    → Stands text is_dir ms b → Stands text is_dir ms (max a b)
stands_max text is_dir ms a b x y = elim (max_either a b) [
  | inl e ↦ subst (λ n. Stands text is_dir ms n) (sym e) x
  | inr e ↦ subst (λ n. Stands text is_dir ms n) (sym e) y
]

pub whole_stands : (table : Table) (text : List ℕ) (is_dir : Bool) (ms : List Member) (n : ℕ) → IsUtf8 text
    → IsTableOf whole table ms → (n ≡ 0) ⊎ (n ≡ after is_dir (slot_at table text)) → Stands (chars text) is_dir ms n
whole_stands table text is_dir ms n utf8 is (inl zero') = inl zero'
whole_stands table text is_dir ms n utf8 is (inr e) = elim ((is.slots is_dir text).last) [
  | inl none ↦ inl (e ∙ none)
  | inr f ↦ inr (f.0, f.1, e ∙ f.2, f.3, (f.4.1, whole_matches f.1.reading text text f.4.0 utf8 refl))
]

pub name_stands : (table : Table) (text : List ℕ) (is_dir : Bool) (ms : List Member) (n : ℕ) → IsUtf8 text
    → IsTableOf name table ms → StandsUnderEnd Name table is_dir text n → Stands (chars text) is_dir ms n
name_stands table text is_dir ms n utf8 is (inl none) = inl none
name_stands table text is_dir ms n utf8 is (inr (key, spelt, fits, e)) = elim ((is.slots is_dir key).last) [
  | inl none ↦ inl (e ∙ none)
  | inr f ↦ inr (f.0, f.1, e ∙ f.2, f.3, (f.4.1, name_matches f.1.reading key text f.4.0 spelt fits utf8))
]

pub end_stands : (table : Table) (text : List ℕ) (is_dir : Bool) (ms : List Member) (n : ℕ) → IsUtf8 text
    → IsTableOf ending table ms → StandsUnderEnd End table is_dir text n → Stands (chars text) is_dir ms n
end_stands table text is_dir ms n utf8 is (inl none) = inl none
end_stands table text is_dir ms n utf8 is (inr (key, spelt, fits, e)) = elim ((is.slots is_dir key).last) [
  | inl none ↦ inl (e ∙ none)
  | inr f ↦ inr (f.0, f.1, e ∙ f.2, f.3, (f.4.1, end_matches f.1.reading key text f.4.0 spelt fits))
]

-- The whole answer.

is_other : (f : Form) → (f ≡ other) ⊎ (f ≡ other → ⊥)
is_other (whole key) = inr (λ e. cc)
is_other (name key) = inr (λ e. cc)
is_other (ending key) = inr (λ e. cc)
is_other other = inl refl

all_above : (text : List ℕ) (is_dir : Bool) (ms : List Member) (best n : ℕ) → IsExactOf text is_dir ms best
    → IsFoundFrom text is_dir ms best n → (i : ℕ) (m : Member) → slice_get ms i ≡ Some m → Applies (chars text) is_dir m → i < n
all_above text is_dir ms best n exact found i m g a = elim (is_other (form_of m.reading)) [
  | inl form ↦ found.above i m g form a
  | inr formed ↦ omega (arith, exact.above i m g a formed, found.kept)
]

all_last : (text : List ℕ) (is_dir : Bool) (ms : List Member) (best n : ℕ) → IsExactOf text is_dir ms best
    → IsFoundFrom text is_dir ms best n → Stands (chars text) is_dir ms n
all_last text is_dir ms best n exact found = elim (found.last) [
  | inl e ↦ subst (λ k. Stands (chars text) is_dir ms k) (sym e) exact.last
  | inr f ↦ inr f
]

decided : (text : List ℕ) (is_dir : Bool) (ms : List Member) (n : ℕ) (r : Option ℕ) → SomeIff r (1 ≤ n) (n - 1)
    → ((i : ℕ) (m : Member) → slice_get ms i ≡ Some m → Applies text is_dir m → i < n) → Stands text is_dir ms n
    → IsLastMatch text is_dir ms r
decided text is_dir ms n None none above last = λ k d fits a. none (omega (arith, above k (get_or ms k d) (slice_get-get_or ms k d fits) a))
decided text is_dir ms n (Some x) (some, e) above (inl zero') = absurd (omega (arith, some, zero'))
decided text is_dir ms n (Some x) (some, e) above (inr (i, m, is, g, a)) =
    let same : x ≡ i = omega (arith, e, is) in
    (m, ap (λ k. slice_get ms k) same ∙ g, a, λ k d fits b. late k d fits b)
  where
    late : (k : ℕ) (d : Member) → k < length (drop (x + 1) ms) → Applies text is_dir (get_or (drop (x + 1) ms) k d) → ⊥
    late k d fits b =
        let within : x + 1 + k < length ms = omega (arith, fits, length-drop (x + 1) ms) in
        let here : get_or (drop (x + 1) ms) k d ≡ get_or ms (x + 1 + k) d = get_or-drop (x + 1) ms k d in
        omega (
          arith,
          e,
          is,
          above (x + 1 + k) (get_or ms (x + 1 + k) d) (slice_get-get_or ms (x + 1 + k) d within)
              (subst (λ (y : Member). Applies text is_dir y) here b),
        )

-- Options and numbers.

pub some_same : {X : Type 0} (a b : X) → Some a ≡ Some b → a ≡ b
some_same a b e = cc

pub none_some : (a : List ℕ) → None ≡ Some a → ⊥
none_some a e = cc

pub split : (k j : ℕ) → (k < j) ⊎ (k ≡ j) ⊎ (j + 1 ≤ k)
split k j = grind arith

-- What stands under the ends of a text.

pub under_max : (how : Ending) (table : Table) (is_dir : Bool) (text : List ℕ) (a b : ℕ)
    → StandsUnderEnd how table is_dir text a → StandsUnderEnd how table is_dir text b → StandsUnderEnd how table is_dir text (max a b)
under_max how table is_dir text a b x y = elim (max_either a b) [
  | inl e
      ↦ subst (λ n. StandsUnderEnd how table is_dir text n) (sym e) x
  | inr e ↦ subst (λ n. StandsUnderEnd how table is_dir text n) (sym e) y
]

pub fits_cut : (how : Ending) (end text : List ℕ) → Fits how end text → (front : List ℕ) × (text ≡ front ++ end)
fits_cut Name end text (inl e) = ([], e)
fits_cut Name end text (inr (front, utf8, e)) = (front ++ 47 ∷ [], e ∙ sym (append_assoc front (47 ∷ []) end))
fits_cut End end text (front, utf8, e) = (front, e)

pub fits_same : (how : Ending) (text a b : List ℕ) → a ≡ b → Fits how a text → Fits how b text
fits_same how text a b e fits = subst (λ t. Fits how t text) e fits

pub mapped_at : {X : Type 0} (f : X → Member) (xs : List X) (i : ℕ) (x : X) → i < length xs → x ≡ get_or xs i x
    → slice_get (map f xs) i ≡ Some (f x)
mapped_at f xs i x fits is =
    slice_get-get_or (map f xs) i (f x) (rw (length-map xs f) fits) ∙ ap Some (get_or-map f xs i x (f x) fits ∙ ap f (sym is))

pub any_default : (xs : List ℕ) (i d e : ℕ) → i < length xs → get_or xs i d ≡ get_or xs i e
any_default [] i d e h = absurd (omega arith)
any_default (x ∷ xs) zero d e h = refl
any_default (x ∷ xs) (suc i) d e h = any_default xs i d e (omega (arith, h))

-- the greatest index of all, by those of the tables and of the others
pub last_found : (text : List ℕ) (is_dir : Bool) (ms : List Member) (best n : ℕ) (r : Option ℕ) → SomeIff r (1 ≤ n) (n - 1)
    → IsExactOf text is_dir ms best → IsFoundFrom text is_dir ms best n → IsLastMatch (chars text) is_dir ms r
last_found text is_dir ms best n r is exact found =
    decided (chars text) is_dir ms n r is (all_above text is_dir ms best n exact found) (all_last text is_dir ms best n exact found)

pub last_within : (text : List ℕ) (is_dir : Bool) (ms : List Member) (r : Option ℕ) → IsLastMatch text is_dir ms r
    → IfSome r (λ i. i < length ms)
last_within text is_dir ms None none = tt
last_within text is_dir ms (Some i) (m, at, applies, rest) = slice_get_within ms i m at
