-- The scan of the patterns that may match a text, from the last down.
use Rattle.std.proofs.Common.{◌≡◌, ◌⊎◌, ℕ, zero, suc, ◌+◌, ◌<◌, ◌≤◌, max, Bool, List, [], ◌∷◌, length, map, take, drop, get_or}
use Rattle.std.proofs.Common.{slice_get, Some, refl, sym, ap, subst, ◌∙◌, inl, inr, arith}
use Rattle.std.specs.List.{IsAmong}
use Rattle.std.specs.Str.{chars, IsUtf8}
use Rattle.std.specs.Str.Iter.{HasSubslice}
use Rattle.std.proofs.lemmas.List.{get_or-map, length-map}
use Rattle.std.proofs.lemmas.Option.{slice_get-get_or, slice_get_within}
use Rattle.ignore_glob.specs.Ends.{HasParent}
use Rattle.ignore_set.specs.declared.parents.Parents.{Parents}
use Rattle.ignore_set.specs.Buckets.{IsPast}
use Rattle.ignore_set.specs.Others.{IndexedText, AreBelow, AreCandidates, AreNeedlesOf, AreOthers, AreTried, AreUnderOf}
use Rattle.ignore_set.specs.Others.{IsFoundFrom, IsFoundInTurn, IsFoundUnder, IsWithinPasses}
use Rattle.ignore_set.specs.Parents.{IsNotedUnder, indexes_at}
use Rattle.ignore_set.specs.Sets.{Member, Applies, AreShort, IsShort, pass_bound}
use Rattle.ignore_set.proofs.IndexLemmas.{some_same, split}
use Rattle.ignore_set.proofs.OtherLemmas.{bound_all, bound_drop, bound_step}

-- The first of a list.

pub taken : {X : Type 0} (xs : List X) (n k : ℕ) (x : X) → slice_get (take n xs) k ≡ Some x → (k < n) × (slice_get xs k ≡ Some x)
taken [] zero k x e = cc
taken [] (suc n) k x e = cc
taken (y ∷ ys) zero k x e = cc
taken (y ∷ ys) (suc n) zero x e = (omega arith, e)
taken (y ∷ ys) (suc n) (suc k) x e = let p = taken ys n k x e in (omega (arith, p.0), p.1)

pub kept_take : {X : Type 0} (xs : List X) (n k : ℕ) (x : X) → k < n → slice_get xs k ≡ Some x → slice_get (take n xs) k ≡ Some x
kept_take [] n k x less e = cc
kept_take (y ∷ ys) zero k x less e = absurd (omega (arith, less))
kept_take (y ∷ ys) (suc n) zero x less e = e
kept_take (y ∷ ys) (suc n) (suc k) x less e = kept_take ys n k x (omega (arith, less)) e

pub length_take : {X : Type 0} (xs : List X) (n : ℕ) → (length (take n xs) ≤ n) × (length (take n xs) ≤ length xs)
length_take [] zero = (omega arith, omega arith)
length_take [] (suc n) = (omega arith, omega arith)
length_take (y ∷ ys) zero = (omega arith, omega arith)
length_take (y ∷ ys) (suc n) = let p = length_take ys n in (omega (arith, p.0), omega (arith, p.1))

pub under_take : (under : List ℕ) (ms : List Member) (n : ℕ) → AreUnderOf under ms → AreUnderOf (take n under) ms
under_take under ms n are = record {
  rising = λ k l i j less gi gj. are.rising k l i j less (taken under n k i gi).1 (taken under n l j gj).1;
  formless = λ k i g. are.formless k i (taken under n k i g).1;
}

needles_take : (needles : List IndexedText) (ms : List Member) (n : ℕ) → AreNeedlesOf needles ms → AreNeedlesOf (take n needles) ms
needles_take needles ms n are = record {
  rising = λ j k a b less ga gb. are.rising j k a b less (taken needles n j a ga).1 (taken needles n k b gb).1;
  formless = λ j x g. are.formless j x (taken needles n j x g).1;
}

under_none : (ms : List Member) → AreUnderOf [] ms
under_none ms = record { rising = λ k l i j less gi gj. cc; formless = λ k i g. cc }

-- The candidates of a text.

pub candidates_of : (text : List ℕ) (needles : List IndexedText) (parents : Parents) (ms : List Member) (end : ℕ) (under : List ℕ)
    → IsUtf8 text → AreOthers needles parents ms → IsPast text needles end
    → ((parent : List ℕ) → HasParent parent text → IsNotedUnder parents parent → under ≡ indexes_at parents parent)
    → (under ≡ []) ⊎ ((parent : List ℕ) × (under ≡ indexes_at parents parent))
    → AreCandidates text (take end needles) under ms
candidates_of text needles parents ms end under utf8 are past all one = record {
  each = λ i m g is matches. elim (are.each i m g is text utf8 matches) [
    | inl p ↦ inl (p.0, p.1, kept_take needles end p.0 p.1 (early p.0 p.1 p.2 p.4) p.2, p.3, p.4)
    | inr p ↦ inr (subst (λ l. IsAmong l i) (sym (all p.0 p.1 p.2)) p.3)
  ];
  needles = needles_take needles ms end are.needles;
  under = elim one [
    | inl none ↦ subst (λ l. AreUnderOf l ms) (sym none) (under_none ms)
    | inr p ↦ subst (λ l. AreUnderOf l ms) (sym p.1) (are.under p.0)
  ];
  apart = λ j k n g u. elim one [
    | inl none ↦ nothing k n.index (subst (λ l. slice_get l k ≡ Some n.index) none u)
    | inr p ↦ are.apart p.0 j k n (taken needles end j n g).1 (subst (λ l. slice_get l k ≡ Some n.index) p.1 u)
  ];
}
  where
    early : (j : ℕ) (n : IndexedText) → slice_get needles j ≡ Some n → HasSubslice text n.text → j < end
    early j n got has = elim (split j end) [
      | inl less ↦ less
      | inr (inl same) ↦ absurd (past j n (omega (arith, same)) got has)
      | inr (inr more) ↦ absurd (past j n (omega (arith, more)) got has)
    ]

    nothing : (k i : ℕ) → slice_get {X = ℕ} [] k ≡ Some i → ⊥
    nothing k i e = cc

-- The patterns under a parent.

-- those from the kth on, all no less than `least`, were tried in vain, in so many passes
pub record AreInVain (text : List ℕ) (is_dir : Bool) (ms : List Member) (under : List ℕ) (least k passes : ℕ) : Type 0 where
  pub none : AreTried text is_dir ms under 0 k
  pub from : (l i : ℕ) → k ≤ l → slice_get under l ≡ Some i → least ≤ i
  pub few : (s t : ℕ) → s ≤ t → AreBelow under (length under) t → ((l i : ℕ) → k ≤ l → slice_get under l ≡ Some i → s ≤ i)
      → passes + pass_bound (drop t ms) ≤ pass_bound (drop s ms)

pub vain_start : (text : List ℕ) (is_dir : Bool) (ms : List Member) (under : List ℕ) (least k : ℕ) → length under ≤ k
    → AreInVain text is_dir ms under least k 0
vain_start text is_dir ms under least k end = record {
  none = λ l i m from got g a. absurd (omega (arith, from, end, slice_get_within under l i got));
  from = λ l i l-from got. absurd (omega (arith, l-from, end, slice_get_within under l i got));
  few = λ s t less below each. omega (arith, bound_drop ms s t less);
}

-- one pass more, for the pattern before
pub vain_pass : (text : List ℕ) (is_dir : Bool) (ms : List Member) (under : List ℕ) (least k passes more i : ℕ) → AreUnderOf under ms
    → slice_get under k ≡ Some i → more ≤ passes + 1 → AreInVain text is_dir ms under least (k + 1) passes
    → (s t : ℕ) → s ≤ i → AreBelow under (length under) t → more + pass_bound (drop t ms) ≤ pass_bound (drop s ms)
vain_pass text is_dir ms under least k passes more i are here one was s t less below =
    let within = slice_get_within under k i here in
    let f = are.formless k i here in
    let i-t = below k i within here in
    let before = was.few (i + 1) t (omega (arith, i-t)) below
    (λ l j from got. let next = are.rising k l i j (omega (arith, from)) here got in omega (arith, next)) in
    omega (arith, one, before, bound_step ms i (i + 1) f.0 f.1 f.2 (omega arith), bound_drop ms s i less)

pub vain_more : (text : List ℕ) (is_dir : Bool) (ms : List Member) (under : List ℕ) (least k passes more i : ℕ) → AreUnderOf under ms
    → slice_get under k ≡ Some i → least ≤ i → more ≤ passes + 1
    → ((m : Member) → slice_get ms i ≡ Some m → Applies (chars text) is_dir m → ⊥)
    → AreInVain text is_dir ms under least (k + 1) passes → AreInVain text is_dir ms under least k more
vain_more text is_dir ms under least k passes more i are here from one fails was = record {
  none = λ l j m l-from got g a. elim (split l k) [
    | inl before ↦ absurd (omega (arith, l-from, before))
    | inr (inl same) ↦
        let e = some_same j i (sym got ∙ (ap (λ n. slice_get under n) same ∙ here)) in
        absurd (fails m (subst (λ n. slice_get ms n ≡ Some m) e g) a)
    | inr (inr later) ↦ was.none l j m later got g a
  ];
  from = λ l j l-from got. elim (split l k) [
    | inl before ↦ absurd (omega (arith, l-from, before))
    | inr (inl same) ↦ let e = some_same j i (sym got ∙ (ap (λ n. slice_get under n) same ∙ here)) in omega (arith, from, e)
    | inr (inr later) ↦ was.from l j later got
  ];
  few = λ s t less below each.
      vain_pass text is_dir ms under least k passes more i are here one was s t (each k i (omega arith) here) below;
}

pub vain_found : (text : List ℕ) (is_dir : Bool) (ms : List Member) (under : List ℕ) (least k passes i : ℕ) (m : Member) → AreUnderOf under ms
    → slice_get under k ≡ Some i → least ≤ i → slice_get ms i ≡ Some m → Applies (chars text) is_dir m
    → AreInVain text is_dir ms under least (k + 1) passes → IsFoundUnder text is_dir ms under least (i + 1) k
vain_found text is_dir ms under least k passes i m are here from at applies was = record {
  within = omega (arith, slice_get_within under k i here);
  below = λ l j less got. let before = are.rising l k j i less got here in inr (omega (arith, before));
  above = λ l j x l-from got g a. elim (split l k) [
    | inl before ↦ absurd (omega (arith, l-from, before))
    | inr (inl same) ↦ let e = some_same j i (sym got ∙ (ap (λ n. slice_get under n) same ∙ here)) in omega (arith, e)
    | inr (inr later) ↦ absurd (omega (arith, was.none l j x later got g a))
  ];
  last = inr (i, m, refl, from, at, applies);
}

pub vain_early : (text : List ℕ) (is_dir : Bool) (ms : List Member) (under : List ℕ) (least k passes i : ℕ) → AreUnderOf under ms
    → slice_get under k ≡ Some i → i < least → AreInVain text is_dir ms under least (k + 1) passes
    → IsFoundUnder text is_dir ms under least 0 (k + 1)
vain_early text is_dir ms under least k passes i are here less was = record {
  within = let fits = slice_get_within under k i here in omega (arith, fits);
  below = λ l j l-less got. elim (split l k) [
    | inl before ↦ inl (let order = are.rising l k j i before got here in omega (arith, order, less))
    | inr (inl same) ↦ inl (let e = some_same j i (sym got ∙ (ap (λ n. slice_get under n) same ∙ here)) in omega (arith, e, less))
    | inr (inr later) ↦ absurd (omega (arith, l-less, later))
  ];
  above = was.none;
  last = inl refl;
}

pub vain_end : (text : List ℕ) (is_dir : Bool) (ms : List Member) (under : List ℕ) (least k passes : ℕ) → k ≤ 0
    → AreInVain text is_dir ms under least k passes → IsFoundUnder text is_dir ms under least 0 0
vain_end text is_dir ms under least k passes end was = record {
  within = omega arith;
  below = λ l j less got. absurd (omega (arith, less));
  above = λ l j m from got g a. was.none l j m (omega (arith, end)) got g a;
  last = inl refl;
}

pub vain_count : (text : List ℕ) (is_dir : Bool) (ms : List Member) (under : List ℕ) (least k passes : ℕ)
    → AreInVain text is_dir ms under least k passes → IsWithinPasses ms under least passes
vain_count text is_dir ms under least k passes was t from below = was.few least t from below (λ l i l-from got. was.from l i l-from got)

-- With a pattern before them.

pub with_later : (text : List ℕ) (is_dir : Bool) (ms : List Member) (under : List ℕ) (index after left : ℕ) → 0 < after
    → IsFoundUnder text is_dir ms under (index + 1) after left → (index < after) × IsFoundUnder text is_dir ms under index after left
with_later text is_dir ms under index after left some was = elim (was.last) [
  | inl none ↦ absurd (omega (arith, some, none))
  | inr f ↦ (
    omega (arith, f.2, f.3),
    record {
      within = was.within;
      below = λ k i less got. elim (was.below k i less got) [
        | inl before ↦ inr (omega (arith, before, f.2, f.3))
        | inr before ↦ inr before
      ];
      above = was.above;
      last = inr (f.0, f.1, f.2, omega (arith, f.3), f.4, f.5);
    },
  )
]

pub with_hit : (text : List ℕ) (is_dir : Bool) (ms : List Member) (under : List ℕ) (index left : ℕ) (m : Member)
    → slice_get ms index ≡ Some m → Applies (chars text) is_dir m
    → IsFoundUnder text is_dir ms under (index + 1) 0 left → IsFoundUnder text is_dir ms under index (index + 1) left
with_hit text is_dir ms under index left m at applies was = record {
  within = was.within;
  below = λ k i less got. elim (was.below k i less got) [
    | inl before ↦ inr before
    | inr before ↦ absurd (omega (arith, before))
  ];
  above = λ k i x from got g a. absurd (omega (arith, was.above k i x from got g a));
  last = inr (index, m, refl, omega arith, at, applies);
}

pub with_miss : (text : List ℕ) (is_dir : Bool) (ms : List Member) (under : List ℕ) (index left : ℕ)
    → ((k : ℕ) → slice_get under k ≡ Some index → ⊥)
    → IsFoundUnder text is_dir ms under (index + 1) 0 left → IsFoundUnder text is_dir ms under index 0 left
with_miss text is_dir ms under index left apart was = record {
  within = was.within;
  below = λ k i less got. elim (was.below k i less got) [
    | inl before ↦ elim (split i index) [
      | inl early ↦ inl early
      | inr (inl same) ↦ absurd (apart k (subst (λ n. slice_get under k ≡ Some n) same got))
      | inr (inr later) ↦ absurd (omega (arith, before, later))
    ]
    | inr before ↦ absurd (omega (arith, before))
  ];
  above = was.above;
  last = inl refl;
}

-- The needles.

-- of the needles at and past j none in the text is one of a pattern that applies
abbrev pub NoneFrom : List ℕ → Bool → List Member → List IndexedText → ℕ → Type 0
NoneFrom text is_dir ms needles j = (k : ℕ) (n : IndexedText) (m : Member) → j ≤ k → slice_get needles k ≡ Some n
    → slice_get ms n.index ≡ Some m → HasSubslice text n.text → Applies (chars text) is_dir m → ⊥

-- these needles, and of the patterns under the parent all but the first, so many, were tried in
-- vain, in so many passes, the pattern at `tried` last
pub record IsScanned (text : List ℕ) (is_dir : Bool) (ms : List Member) (needles : List IndexedText) (under : List ℕ)
    (j tried rest passes : ℕ) : Type 0 where
  pub none : NoneFrom text is_dir ms needles j
  pub failed : (m : Member) → slice_get ms tried ≡ Some m → Applies (chars text) is_dir m → ⊥
  pub early : (k : ℕ) (n : IndexedText) → k < j → slice_get needles k ≡ Some n → n.index ≤ tried
  pub within : rest ≤ length under
  pub late : AreTried text is_dir ms under 0 rest
  pub below : AreBelow under rest tried
  pub few : passes ≤ pass_bound (drop tried ms)

pub scan_start : (text : List ℕ) (is_dir : Bool) (ms : List Member) (needles : List IndexedText) (under : List ℕ) (j : ℕ)
    → AreCandidates text needles under ms → length needles ≤ j
    → IsScanned text is_dir ms needles under j (length ms) (length under) 0
scan_start text is_dir ms needles under j are end = record {
  none = λ k n m from got g has a. absurd (omega (arith, from, end, slice_get_within needles k n got));
  failed = λ m g a. absurd (omega (arith, slice_get_within ms (length ms) m g));
  early = λ k n less got. let f = are.needles.formless k n got in omega (arith, slice_get_within ms n.index f.0 f.1);
  within = omega arith;
  late = λ k i m from got g a. absurd (omega (arith, from, slice_get_within under k i got));
  below = λ k i less got. let f = are.under.formless k i got in slice_get_within ms i f.0 f.1;
  few = omega arith;
}

none_more : (text : List ℕ) (is_dir : Bool) (ms : List Member) (needles : List IndexedText) (j : ℕ) (n : IndexedText)
    → slice_get needles j ≡ Some n
    → ((m : Member) → slice_get ms n.index ≡ Some m → HasSubslice text n.text → Applies (chars text) is_dir m → ⊥)
    → NoneFrom text is_dir ms needles (j + 1) → NoneFrom text is_dir ms needles j
none_more text is_dir ms needles j n here fails none k x m from g h has a = elim (split k j) [
  | inl before ↦ absurd (omega (arith, from, before))
  | inr (inl same) ↦
      let one : x ≡ n = some_same x n (sym g ∙ (ap (λ i. slice_get needles i) same ∙ here)) in
      fails m (subst (λ (y : IndexedText). slice_get ms y.index ≡ Some m) one h)
      (subst (λ (y : IndexedText). HasSubslice text y.text) one has) a
  | inr (inr later) ↦ none k x m later g h has a
]

-- a needle is passed over
pub scan_skip : (text : List ℕ) (is_dir : Bool) (ms : List Member) (needles : List IndexedText) (under : List ℕ)
    (j tried rest passes : ℕ) (n : IndexedText) → slice_get needles j ≡ Some n
    → ((m : Member) → slice_get ms n.index ≡ Some m → HasSubslice text n.text → Applies (chars text) is_dir m → ⊥)
    → IsScanned text is_dir ms needles under (j + 1) tried rest passes → IsScanned text is_dir ms needles under j tried rest passes
scan_skip text is_dir ms needles under j tried rest passes n here fails was = record {
  none = none_more text is_dir ms needles j n here fails was.none;
  failed = was.failed;
  early = λ k x less got. was.early k x (omega (arith, less)) got;
  within = was.within;
  late = was.late;
  below = was.below;
  few = was.few;
}

-- those under the parent were tried down to a place, among the first, so many
under_both : (text : List ℕ) (is_dir : Bool) (ms : List Member) (under : List ℕ) (rest left after : ℕ)
    → AreTried text is_dir ms under 0 rest → AreTried text is_dir ms (take rest under) after left → AreTried text is_dir ms under after left
under_both text is_dir ms under rest left after late early k i m from got g a = elim (split k rest) [
  | inl before ↦ early k i m from (kept_take under rest k i before got) g a
  | inr (inl same) ↦ absurd (omega (arith, late k i m (omega (arith, same)) got g a))
  | inr (inr later) ↦ absurd (omega (arith, late k i m (omega (arith, later)) got g a))
]

-- what is known of the pattern of a needle, once it and those under the parent after it are tried
pub record IsTriedWith (text : List ℕ) (is_dir : Bool) (ms : List Member) (under : List ℕ) (index after left passes : ℕ) : Type 0 where
  pub value : IsFoundUnder text is_dir ms under index after left
  pub own : (m : Member) → slice_get ms index ≡ Some m → Applies (chars text) is_dir m → index < after
  pub count : (t : ℕ) → index < t → AreBelow under (length under) t → passes + pass_bound (drop t ms) ≤ pass_bound (drop index ms)

below_take : (under : List ℕ) (rest tried : ℕ) → AreBelow under rest tried → AreBelow (take rest under) (length (take rest under)) tried
below_take under rest tried was k i less got = let p = taken under rest k i got in was k i p.0 p.1

pub few_more : (text : List ℕ) (is_dir : Bool) (ms : List Member) (needles : List IndexedText) (under : List ℕ)
    (j tried rest passes after left more index total : ℕ) → index < tried → total ≤ passes + more
    → IsTriedWith text is_dir ms (take rest under) index after left more
    → IsScanned text is_dir ms needles under (j + 1) tried rest passes → total ≤ pass_bound (drop index ms)
few_more text is_dir ms needles under j tried rest passes after left more index total less sum tries was =
    omega (arith, sum, was.few, tries.count tried less (below_take under rest tried was.below))

module _ (text : List ℕ) (is_dir : Bool) (ms : List Member) (needles : List IndexedText) (under : List ℕ) where
  pub scan_miss : (j tried rest passes left more total : ℕ) (n : IndexedText) → AreNeedlesOf needles ms → slice_get needles j ≡ Some n
      → n.index < tried → total ≤ passes + more → IsTriedWith text is_dir ms (take rest under) n.index 0 left more
      → IsScanned text is_dir ms needles under (j + 1) tried rest passes
      → IsScanned text is_dir ms needles under j n.index left total
  scan_miss j tried rest passes left more total n are here less sum tries was = record {
    none = none_more text is_dir ms needles j n here (λ m g has a. absurd (omega (arith, tries.own m g a))) was.none;
    failed = λ m g a. absurd (omega (arith, tries.own m g a));
    early = λ k x k-less got. are.rising k j x n (omega (arith, k-less)) got here;
    within = omega (arith, tries.value.within, (length_take under rest).1);
    late = under_both text is_dir ms under rest left 0 was.late tries.value.above;
    below = λ k i k-less got. elim (tries.value.below k i k-less (kept_take under rest k i
        (omega (arith, k-less, tries.value.within, (length_take under rest).0)) got)) [
          | inl before ↦ before
          | inr before ↦ absurd (omega (arith, before))
        ];
    few = few_more text is_dir ms needles under j tried rest passes 0 left more n.index total less sum tries was;
  }

  pub scan_found : (j tried rest passes after left more best : ℕ) (n : IndexedText) → AreNeedlesOf needles ms → slice_get needles j ≡ Some n
      → 0 < after → best ≤ n.index → IsTriedWith text is_dir ms (take rest under) n.index after left more
      → IsScanned text is_dir ms needles under (j + 1) tried rest passes
      → IsFoundInTurn text is_dir ms needles under best after left
  scan_found j tried rest passes after left more best n are here some from tries was = elim (tries.value.last) [
    | inl none ↦ absurd (omega (arith, some, none))
    | inr f ↦ record {
      within = omega (arith, tries.value.within, (length_take under rest).1);
      needles = λ k x m got g has a. elim (split k j) [
        | inl before ↦ inl (let order = are.rising k j x n (omega (arith, before)) got here in omega (arith, order, f.2, f.3))
        | inr (inl same) ↦
            let one : x ≡ n = some_same x n (sym got ∙ (ap (λ i. slice_get needles i) same ∙ here)) in
            let e : x.index ≡ n.index = ap (λ (y : IndexedText). y.index) one in
            inl (omega (arith, e, f.2, f.3))
        | inr (inr later) ↦ absurd (was.none k x m later got g has a)
      ];
      below = inr (λ k i k-less got. elim (tries.value.below k i k-less (kept_take under rest k i
          (omega (arith, k-less, tries.value.within, (length_take under rest).0)) got)) [
            | inl before ↦ omega (arith, before, f.2, f.3)
            | inr before ↦ before
          ]);
      above = under_both text is_dir ms under rest left after was.late tries.value.above;
      last = inr (f.0, f.1, f.2, omega (arith, from, f.3), f.4, f.5);
    }
  ]

  pub scan_early : (j tried rest passes best : ℕ) (n : IndexedText) → AreNeedlesOf needles ms → slice_get needles j ≡ Some n
      → n.index < best → IsScanned text is_dir ms needles under (j + 1) tried rest passes
      → IsFoundInTurn text is_dir ms needles under best 0 rest
  scan_early j tried rest passes best n are here less was = record {
    within = was.within;
    needles = λ k x m got g has a. elim (split k (j + 1)) [
      | inl before ↦ inr (let order = are.rising k j x n (omega (arith, before)) got here in omega (arith, order, less))
      | inr (inl same) ↦ absurd (was.none k x m (omega (arith, same)) got g has a)
      | inr (inr later) ↦ absurd (was.none k x m (omega (arith, later)) got g has a)
    ];
    below = inl refl;
    above = was.late;
    last = inl refl;
  }

  pub scan_end : (j from tried rest passes best : ℕ) → j ≤ from
      → ((k : ℕ) (x : IndexedText) → k < from → slice_get needles k ≡ Some x → x.index < best)
      → IsScanned text is_dir ms needles under j tried rest passes
      → IsFoundInTurn text is_dir ms needles under best 0 rest
  scan_end j from tried rest passes best end low was = record {
    within = was.within;
    needles = λ k x m got g has a. elim (split k from) [
      | inl before ↦ inr (low k x before got)
      | inr (inl same) ↦ absurd (was.none k x m (omega (arith, end, same)) got g has a)
      | inr (inr later) ↦ absurd (was.none k x m (omega (arith, end, later)) got g has a)
    ];
    below = inl refl;
    above = was.late;
    last = inl refl;
  }

  -- All together.

  pub found_first : (best after left : ℕ) → AreCandidates text needles under ms → 0 < after
      → IsFoundInTurn text is_dir ms needles under best after left → IsFoundFrom text is_dir ms best after
  found_first best after left are some was = elim (was.last) [
    | inl none ↦ absurd (omega (arith, some, none))
    | inr f ↦ record {
      kept = omega (arith, f.2, f.3);
      above = λ i m g is a. elim (are.each i m g is a.1) [
        | inl p ↦ elim (was.needles p.0 p.1 m p.2 (ap (λ k. slice_get ms k) p.3 ∙ g) p.4 a) [
          | inl less ↦ omega (arith, less, p.3)
          | inr less ↦ omega (arith, less, p.3, f.2, f.3)
        ]
        | inr p ↦ under_less i m p g a
      ];
      last = inr (f.0, f.1, f.2, f.4, f.5);
    }
  ]
    where
      under_less : (i : ℕ) (m : Member) → IsAmong under i → slice_get ms i ≡ Some m → Applies (chars text) is_dir m → i < after
      under_less i m p g a =
          let got = slice_get-get_or under p.0 i p.1.0 ∙ ap Some (sym p.1.1) in
          elim (split p.0 left) [
            | inl before ↦ elim (was.below) [
              | inl none ↦ absurd (omega (arith, some, none))
              | inr low ↦ low p.0 i before got
            ]
            | inr (inl same) ↦ was.above p.0 i m (omega (arith, same)) got g a
            | inr (inr later) ↦ was.above p.0 i m (omega (arith, later)) got g a
          ]

  pub found_rest : (best left after left' : ℕ) → AreCandidates text needles under ms → IsFoundInTurn text is_dir ms needles under best 0 left
      → IsFoundUnder text is_dir ms (take left under) best after left' → IsFoundFrom text is_dir ms best (max after best)
  found_rest best left after left' are was rest = record {
    kept = grind arith;
    above = λ i m g is a. elim (are.each i m g is a.1) [
      | inl p ↦ elim (was.needles p.0 p.1 m p.2 (ap (λ k. slice_get ms k) p.3 ∙ g) p.4 a) [
        | inl less ↦ absurd (omega (arith, less))
        | inr less ↦ grind (arith, less, p.3)
      ]
      | inr p ↦ under_less i m p g a
    ];
    last = elim (rest.last) [
      | inl none ↦ inl (grind (arith, none))
      | inr f ↦ inr (f.0, f.1, grind (arith, f.2, f.3), f.4, f.5)
    ];
  }
    where
      under_less : (i : ℕ) (m : Member) → IsAmong under i → slice_get ms i ≡ Some m → Applies (chars text) is_dir m → i < max after best
      under_less i m p g a =
          let got = slice_get-get_or under p.0 i p.1.0 ∙ ap Some (sym p.1.1) in
          elim (split p.0 left) [
            | inl before ↦ elim (split p.0 left') [
              | inl low ↦ elim (rest.below p.0 i low (kept_take under left p.0 i before got)) [
                | inl less ↦ grind (arith, less)
                | inr less ↦ grind (arith, less)
              ]
              | inr (inl same) ↦
                  let less = rest.above p.0 i m (omega (arith, same)) (kept_take under left p.0 i before got) g a in grind (arith, less)
              | inr (inr later) ↦
                  let less = rest.above p.0 i m (omega (arith, later)) (kept_take under left p.0 i before got) g a in grind (arith, less)
            ]
            | inr (inl same) ↦ absurd (omega (arith, was.above p.0 i m (omega (arith, same)) got g a))
            | inr (inr later) ↦ absurd (omega (arith, was.above p.0 i m (omega (arith, later)) got g a))
          ]

  -- the passes of both
  pub found_count : (best n left passes more total : ℕ) → passes ≤ pass_bound (drop n ms) → AreBelow under left n
      → IsWithinPasses ms (take left under) best more → total ≤ passes + more → total ≤ pass_bound ms
  found_count best n left passes more total few below rest sum = elim (split n best) [
    | inl before ↦
        let none = rest best (omega arith) (below_take under left best (λ k i k-less got. let low = below k i k-less got in omega (arith, low, before))) in
        omega (arith, sum, few, none, bound_all ms n)
    | inr (inl same) ↦ omega (arith, sum, few, rest n (omega (arith, same)) (below_take under left n below), bound_all ms best)
    | inr (inr later) ↦ omega (arith, sum, few, rest n (omega (arith, later)) (below_take under left n below), bound_all ms best)
  ]

-- A member at an index.

pub short_at : {X : Type 0} (f : X → Member) (xs : List X) (i : ℕ) (x : X) → i < length xs → x ≡ get_or xs i x → AreShort (map f xs)
    → IsShort (f x).reading
short_at f xs i x fits is short =
    subst (λ (y : Member). IsShort y.reading) (get_or-map f xs i x (f x) fits ∙ ap f (sym is)) (short i (f x) (rw (length-map xs f) fits))

pub listed_within : {X : Type 0} (f : X → Member) (xs : List X) (under : List ℕ) (k : ℕ) → AreUnderOf under (map f xs) → k < length under
    → get_or under k 0 < length xs
listed_within f xs under k are fits =
    let p = are.formless k (get_or under k 0) (slice_get-get_or under k 0 fits) in
    omega (arith, slice_get_within (map f xs) (get_or under k 0) p.0 p.1, length-map xs f)
