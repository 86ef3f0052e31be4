-- What the needles of the patterns of no form say, and what stands under parents, once a pattern is added.
use Rattle.std.proofs.Common.{◌≡◌, ◌⊎◌, ℕ, zero, suc, ◌+◌, ◌<◌, ◌≤◌, Bool, List, [], ◌∷◌, ◌++◌, length, map, drop}
use Rattle.std.proofs.Common.{slice_get, Some, refl, sym, ap, subst, ◌∙◌, inl, inr, arith, zero-add, string_bytes, String}
use Rattle.std.proofs.Common.{Global, true, false, cond}
use Rattle.std.specs.Bool.{Decides}
use Rattle.std.specs.List.{IsAmong}
use Rattle.std.specs.Str.{chars, IsUtf8, bytes_eq}
use Rattle.std.specs.Str.Iter.{HasSubslice}
use Rattle.std.proofs.lemmas.List.Sums.{sum_by-cons}
use Rattle.std.proofs.lemmas.Bool.{false≢true}
use Rattle.std.proofs.lemmas.Option.{slice_get_within}
use Rattle.std.proofs.lemmas.Slice.Eq.{bytes_eq-Decides}
use Rattle.ignore_glob.specs.Ends.{HasParent}
use Rattle.ignore_glob.specs.Forms.{other, form_of}
use Rattle.ignore_glob.specs.Needles.{HasOneOf}
use Rattle.ignore_glob.specs.Reading.{Matches}
use Rattle.ignore_set.specs.declared.parents.Parents.{Parents}
use Rattle.ignore_set.specs.Others.{IndexedText, AreNeedlesOf, AreOthers, AreUnderOf}
use Rattle.ignore_set.specs.Parents.{IsNotedUnder, indexes_at}
use Rattle.ignore_set.specs.Sets.{Member, form_passes, passes_of, pass_bound}
use Rattle.ignore_set.proofs.IndexLemmas.{some_same}
use Rattle.ignore_set.proofs.SlotLemmas.{got_append, kept_append, end_append, among_more, among_end}

-- Lists.

got_either : {X : Type 0} (xs ys : List X) (i : ℕ) (x : X) → slice_get (xs ++ ys) i ≡ Some x
    → (slice_get xs i ≡ Some x) ⊎ ((k : ℕ) × (i ≡ length xs + k) × (slice_get ys k ≡ Some x))
got_either [] ys i x e = inr (i, sym (zero-add i), e)
got_either (z ∷ xs) ys zero x e = inl e
got_either (z ∷ xs) ys (suc i) x e = elim (got_either xs ys i x e) [ inl g ↦ inl g | inr p ↦ inr (p.0, omega (arith, p.1), p.2) ]

past_append : {X : Type 0} (xs ys : List X) (k : ℕ) → slice_get (xs ++ ys) (length xs + k) ≡ slice_get ys k
past_append [] ys k = ap (λ n. slice_get ys n) (zero-add k)
past_append (z ∷ xs) ys k = ap (λ n. slice_get (z ∷ (xs ++ ys)) n) (next (length xs)) ∙ past_append xs ys k
  where
    next : (n : ℕ) → suc n + k ≡ suc (n + k)
    next n = omega arith

-- the needles of one pattern
abbrev pub needles_at : ℕ → List (List ℕ) → List IndexedText
needles_at index texts = map (λ t. record { index = index; text = t }) texts

at_index : (index : ℕ) (texts : List (List ℕ)) (k : ℕ) (n : IndexedText) → slice_get (needles_at index texts) k ≡ Some n → n.index ≡ index
at_index index [] k n e = cc
at_index index (t ∷ texts) zero n e = ap (λ (x : IndexedText). x.index) (sym (some_same (record { index = index; text = t }) n e))
at_index index (t ∷ texts) (suc k) n e = at_index index texts k n e

had_at : (index : ℕ) (texts : List (List ℕ)) (text : List ℕ) → HasOneOf texts text
    → (k : ℕ) × (n : IndexedText) × (slice_get (needles_at index texts) k ≡ Some n) × (n.index ≡ index) × HasSubslice text n.text
had_at index [] text h = absurd h
had_at index (t ∷ texts) text (inl h) = (0, record { index = index; text = t }, refl, refl, h)
had_at index (t ∷ texts) text (inr h) = let p = had_at index texts text h in (suc p.0, p.1, p.2, p.3, p.4)

pub needles_at-strings : (index : ℕ) (ts : List (String Global))
    → map (λ t. record { index = index; text = string_bytes t }) ts ≡ needles_at index (map string_bytes ts)
needles_at-strings index [] = refl
needles_at-strings index (t ∷ ts) = ap (λ l. record { index = index; text = string_bytes t } ∷ l) (needles_at-strings index ts)

-- A pattern more.

-- needles of patterns stay needles of patterns
needles_kept : (needles : List IndexedText) (ms : List Member) (m : Member) → AreNeedlesOf needles ms → AreNeedlesOf needles (ms ++ m ∷ [])
needles_kept needles ms m was = record {
  rising = was.rising;
  formless = λ j n g. let p = was.formless j n g in (p.0, kept_append ms (m ∷ []) n.index p.0 p.1, p.2);
}

under_kept : (under : List ℕ) (ms : List Member) (m : Member) → AreUnderOf under ms → AreUnderOf under (ms ++ m ∷ [])
under_kept under ms m was = record {
  rising = was.rising;
  formless = λ k i g. let p = was.formless k i g in (p.0, kept_append ms (m ∷ []) i p.0 p.1, p.2);
}

pub others_same : (others : List IndexedText) (parents : Parents) (ms : List Member) (m : Member) → (form_of m.reading ≡ other → ⊥)
    → AreOthers others parents ms → AreOthers others parents (ms ++ m ∷ [])
others_same others parents ms m formed was = record {
  each = λ i x g is. elim (got_append ms m i x g) [
    | inl before ↦ was.each i x before is
    | inr p ↦ absurd (formed (sym (ap (λ (y : Member). form_of y.reading) p.1) ∙ is))
  ];
  needles = needles_kept others ms m was.needles;
  under = λ parent. under_kept (indexes_at parents parent) ms m (was.under parent);
  apart = was.apart;
}

-- the needles of one more pattern
needles_more : (needles : List IndexedText) (texts : List (List ℕ)) (ms : List Member) (m : Member) → form_of m.reading ≡ other
    → AreNeedlesOf needles ms → AreNeedlesOf (needles ++ needles_at (length ms) texts) (ms ++ m ∷ [])
needles_more needles texts ms m is was = record {
  rising = λ j k a b less ga gb. elim (got_either needles (needles_at (length ms) texts) k b gb) [
    | inl gb' ↦ elim (got_either needles (needles_at (length ms) texts) j a ga) [
      | inl ga' ↦ was.rising j k a b less ga' gb'
      | inr p ↦ absurd (omega (arith, p.1, less, slice_get_within needles k b gb'))
    ]
    | inr q ↦ elim (got_either needles (needles_at (length ms) texts) j a ga) [
      | inl ga' ↦ let f = was.formless j a ga' in omega (arith, slice_get_within ms a.index f.0 f.1, at_index (length ms) texts q.0 b q.2)
      | inr p ↦ omega (arith, at_index (length ms) texts p.0 a p.2, at_index (length ms) texts q.0 b q.2)
    ]
  ];
  formless = λ j n g. elim (got_either needles (needles_at (length ms) texts) j n g) [
    | inl g' ↦ let p = was.formless j n g' in (p.0, kept_append ms (m ∷ []) n.index p.0 p.1, p.2)
    | inr q ↦ (m, ap (λ i. slice_get (ms ++ m ∷ []) i) (at_index (length ms) texts q.0 n q.2) ∙ end_append ms m, is)
  ];
}

pub others_put : (others : List IndexedText) (parents : Parents) (texts : List (List ℕ)) (ms : List Member) (m : Member)
    → form_of m.reading ≡ other → ((text : List ℕ) → IsUtf8 text → Matches m.reading (chars text) → HasOneOf texts text)
    → AreOthers others parents ms → AreOthers (others ++ needles_at (length ms) texts) parents (ms ++ m ∷ [])
others_put others parents texts ms m is has was = record {
  each = λ i x g h text utf8 matches. elim (got_append ms m i x g) [
    | inl before ↦ elim (was.each i x before h text utf8 matches) [
      | inl p ↦ inl (p.0, p.1, kept_append others (needles_at (length ms) texts) p.0 p.1 p.2, p.3, p.4)
      | inr p ↦ inr p
    ]
    | inr q ↦ let p = had_at (length ms) texts text (has text utf8 (subst (λ (y : Member). Matches y.reading (chars text)) q.1 matches)) in
        inl (length others + p.0, p.1, past_append others (needles_at (length ms) texts) p.0 ∙ p.2, p.3 ∙ sym q.0, p.4)
  ];
  needles = needles_more others texts ms m is was.needles;
  under = λ parent. under_kept (indexes_at parents parent) ms m (was.under parent);
  apart = λ parent j k n g u. elim (got_either others (needles_at (length ms) texts) j n g) [
    | inl g' ↦ was.apart parent j k n g' u
    | inr q ↦ let f = (was.under parent).formless k n.index u in
        absurd (omega (arith, slice_get_within ms n.index f.0 f.1, at_index (length ms) texts q.0 n q.2))
  ];
}

-- an index more under a parent

under_more : (under : List ℕ) (ms : List Member) (m : Member) → form_of m.reading ≡ other → AreUnderOf under ms
    → AreUnderOf (under ++ length ms ∷ []) (ms ++ m ∷ [])
under_more under ms m is was = record {
  rising = λ k l i j less gi gj. elim (got_append under (length ms) l j gj) [
    | inl gj' ↦ elim (got_append under (length ms) k i gi) [
      | inl gi' ↦ was.rising k l i j less gi' gj'
      | inr p ↦ absurd (omega (arith, p.0, less, slice_get_within under l j gj'))
    ]
    | inr q ↦ elim (got_append under (length ms) k i gi) [
      | inl gi' ↦ let f = was.formless k i gi' in omega (arith, slice_get_within ms i f.0 f.1, q.1)
      | inr p ↦ absurd (omega (arith, p.0, q.0, less))
    ]
  ];
  formless = λ k i g. elim (got_append under (length ms) k i g) [
    | inl g' ↦ let p = was.formless k i g' in (p.0, kept_append ms (m ∷ []) i p.0 p.1, p.2)
    | inr q ↦ (m, ap (λ n. slice_get (ms ++ m ∷ []) n) q.1 ∙ end_append ms m, is)
  ];
}

-- what `put` says of a parent
abbrev pub PutsUnder : Parents → Parents → ℕ → List ℕ → Type 0
PutsUnder old new index parent =
    ((q : List ℕ) → indexes_at new q ≡ cond (bytes_eq parent q) (indexes_at old q ++ index ∷ []) (indexes_at old q))
    × IsNotedUnder new parent × ((q : List ℕ) → IsNotedUnder old q → IsNotedUnder new q)

pub parents_put : (others : List IndexedText) (old new : Parents) (parent : List ℕ) (ms : List Member) (m : Member)
    → form_of m.reading ≡ other → ((text : List ℕ) → IsUtf8 text → Matches m.reading (chars text) → HasParent parent text)
    → PutsUnder old new (length ms) parent → AreOthers others old ms → AreOthers others new (ms ++ m ∷ [])
parents_put others old new parent ms m is has (lists, noted, kept) was = record {
  each = λ i x g h text utf8 matches. elim (got_append ms m i x g) [
    | inl before ↦ elim (was.each i x before h text utf8 matches) [
      | inl p ↦ inl p
      | inr p ↦ inr (p.0, p.1, kept p.0 p.2, more p.0 i p.3 (bytes_eq parent p.0) (lists p.0))
    ]
    | inr q ↦ inr (
      parent,
      has text utf8 (subst (λ (y : Member). Matches y.reading (chars text)) q.1 matches),
      noted,
      subst (λ k. IsAmong (indexes_at new parent) k) (sym q.0) (own (bytes_eq parent parent) (bytes_eq-Decides parent parent) (lists parent)),
    )
  ];
  needles = needles_kept others ms m was.needles;
  under = λ q. grown q (bytes_eq parent q) (lists q);
  apart = λ q j k n g u. apart_at q j k n g (bytes_eq parent q) (subst (λ l. slice_get l k ≡ Some n.index) (lists q) u);
}
  where
    more : (q : List ℕ) (i : ℕ) → IsAmong (indexes_at old q) i → (same : Bool)
        → indexes_at new q ≡ cond same (indexes_at old q ++ length ms ∷ []) (indexes_at old q) → IsAmong (indexes_at new q) i
    more q i among true e = subst (λ l. IsAmong l i) (sym e) (among_more (indexes_at old q) (length ms ∷ []) i among)
    more q i among false e = subst (λ l. IsAmong l i) (sym e) among

    own : (same : Bool) → Decides same (parent ≡ parent)
        → indexes_at new parent ≡ cond same (indexes_at old parent ++ length ms ∷ []) (indexes_at old parent)
        → IsAmong (indexes_at new parent) (length ms)
    own true d e = subst (λ l. IsAmong l (length ms)) (sym e) (among_end (indexes_at old parent) (length ms))
    own false d e = absurd (false≢true (d.1 refl))

    grown : (q : List ℕ) (same : Bool) → indexes_at new q ≡ cond same (indexes_at old q ++ length ms ∷ []) (indexes_at old q)
        → AreUnderOf (indexes_at new q) (ms ++ m ∷ [])
    grown q true e = subst (λ l. AreUnderOf l (ms ++ m ∷ [])) (sym e) (under_more (indexes_at old q) ms m is (was.under q))
    grown q false e = subst (λ l. AreUnderOf l (ms ++ m ∷ [])) (sym e) (under_kept (indexes_at old q) ms m (was.under q))

    apart_at : (q : List ℕ) (j k : ℕ) (n : IndexedText) → slice_get others j ≡ Some n → (same : Bool)
        → slice_get (cond same (indexes_at old q ++ length ms ∷ []) (indexes_at old q)) k ≡ Some n.index → ⊥
    apart_at q j k n g true u = elim (got_append (indexes_at old q) (length ms) k n.index u) [
      | inl u' ↦ was.apart q j k n g u'
      | inr p ↦ let f = was.needles.formless j n g in absurd (omega (arith, slice_get_within ms n.index f.0 f.1, p.1))
    ]
    apart_at q j k n g false u = was.apart q j k n g u

-- Passes.

le_more : (a b c : ℕ) → a ≤ b → a ≤ c + b
le_more a b c less = omega (arith, less)

one_more : (a b c : ℕ) → c ≡ 1 → a ≤ b → a + 1 ≤ c + b
one_more a b c one less = omega (arith, one, less)

pub bound_drop : (ms : List Member) (i t : ℕ) → i ≤ t → pass_bound (drop t ms) ≤ pass_bound (drop i ms)
bound_drop [] zero zero less = omega arith
bound_drop [] zero (suc t) less = omega arith
bound_drop [] (suc i) zero less = absurd (omega (arith, less))
bound_drop [] (suc i) (suc t) less = omega arith
bound_drop (m ∷ ms) zero zero less = omega arith
bound_drop (m ∷ ms) zero (suc t) less =
    subst (λ n. pass_bound (drop t ms) ≤ n) (sym (sum_by-cons passes_of m ms))
    (le_more (pass_bound (drop t ms)) (pass_bound ms) (passes_of m) (bound_drop ms 0 t (omega arith)))
bound_drop (m ∷ ms) (suc i) zero less = absurd (omega (arith, less))
bound_drop (m ∷ ms) (suc i) (suc t) less = bound_drop ms i t (omega (arith, less))

pub bound_all : (ms : List Member) (t : ℕ) → pass_bound (drop t ms) ≤ pass_bound ms
bound_all ms t = bound_drop ms 0 t (omega arith)

pub bound_step : (ms : List Member) (i t : ℕ) (m : Member) → slice_get ms i ≡ Some m → form_of m.reading ≡ other → i < t
    → pass_bound (drop t ms) + 1 ≤ pass_bound (drop i ms)
bound_step [] i t m g is less = cc
bound_step (x ∷ ms) zero zero m g is less = absurd (omega (arith, less))
bound_step (x ∷ ms) zero (suc t) m g is less =
    subst (λ n. pass_bound (drop t ms) + 1 ≤ n) (sym (sum_by-cons passes_of x ms))
    (one_more (pass_bound (drop t ms)) (pass_bound ms) (passes_of x)
    (ap form_passes (ap (λ (y : Member). form_of y.reading) (some_same x m g) ∙ is)) (bound_drop ms 0 t (omega arith)))
bound_step (x ∷ ms) (suc i) zero m g is less = absurd (omega (arith, less))
bound_step (x ∷ ms) (suc i) (suc t) m g is less = bound_step ms i t m g is (omega (arith, less))
