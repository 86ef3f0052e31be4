-- What the buckets of needles say, and how one needle more is put into them.
use Rattle.std.proofs.Common.{◌≡◌, ◌≢◌, ℕ, zero, suc, ◌+◌, ◌<◌, ◌≤◌, nat_lt, Bool, true, false, cond, ◌⊎◌, List, [], ◌∷◌, ◌++◌, length, drop, set}
use Rattle.std.proofs.Common.{slice_get, Some, refl, sym, ap, subst, ◌∙◌, inl, inr, arith, Vec, Global}
use Rattle.std.specs.List.{IsAmong}
use Rattle.std.specs.Str.Iter.{HasSubslice}
use Rattle.std.proofs.lemmas.Bool.Decides.{nat_tests}
use Rattle.std.proofs.lemmas.List.{length-append}
use Rattle.std.proofs.lemmas.Option.{slice_get_within}
use Rattle.std.proofs.Math.Seq.{drop-append_seam}
use Rattle.ignore_set.specs.declared.buckets.Buckets.{Buckets}
use Rattle.ignore_set.specs.Buckets.{AreBucketsOf, IsFrontOf, IsPast}
use Rattle.ignore_set.specs.Others.{IndexedText, bucket_of, eight_at, eight_of, five_at, five_of, front_of, mark_of, three_of, twelve_at, twelve_of}
use Rattle.ignore_set.proofs.IndexLemmas.{some_same, split}
use Rattle.ignore_set.proofs.SlotLemmas.{got_append, among_more, among_end}

-- Lists.

pub set_here : {X : Type 0} (xs : List X) (i : ℕ) (x : X) → i < length xs → slice_get (set xs i x) i ≡ Some x
set_here [] i x fits = absurd (omega (arith, fits))
set_here (y ∷ xs) zero x fits = refl
set_here (y ∷ xs) (suc i) x fits = set_here xs i x (omega (arith, fits))

pub set_there : {X : Type 0} (xs : List X) (i k : ℕ) (x y : X) → k ≢ i → slice_get xs k ≡ Some y → slice_get (set xs i x) k ≡ Some y
set_there [] i k x y differs got = cc
set_there (z ∷ xs) zero zero x y differs got = absurd (differs refl)
set_there (z ∷ xs) zero (suc k) x y differs got = got
set_there (z ∷ xs) (suc i) zero x y differs got = got
set_there (z ∷ xs) (suc i) (suc k) x y differs got = set_there xs i k x y (λ e. differs (ap suc e)) got

pub set_length : {X : Type 0} (xs : List X) (i : ℕ) (x : X) → length (set xs i x) ≡ length xs
set_length [] i x = refl
set_length (z ∷ xs) zero x = refl
set_length (z ∷ xs) (suc i) x = ap suc (set_length xs i x)

-- what was true stays so where another is set to it
set_true : (xs : List Bool) (i k : ℕ) → slice_get xs k ≡ Some true → slice_get (set xs i true) k ≡ Some true
set_true [] i k got = got
set_true (z ∷ xs) zero zero got = refl
set_true (z ∷ xs) zero (suc k) got = got
set_true (z ∷ xs) (suc i) zero got = got
set_true (z ∷ xs) (suc i) (suc k) got = set_true xs i k got

pub front_fits : (text : List ℕ) → front_of text < 65536
front_fits [] = omega arith
front_fits (a ∷ []) = omega arith
front_fits (a ∷ b ∷ []) = omega arith
front_fits (a ∷ b ∷ c ∷ text) = omega arith

-- The numbers of a text.

below : (d n : ℕ) → d < n → nat_lt d n ≡ true
below d n h = grind (arith, nat_tests)

not_below : (d n : ℕ) → n ≤ d → nat_lt d n ≡ false
not_below d n h = grind (arith, nat_tests)

three_fits : (text : List ℕ) → three_of text < 4096
three_fits [] = omega arith
three_fits (a ∷ []) = omega arith
three_fits (a ∷ b ∷ []) = omega arith
three_fits (a ∷ b ∷ c ∷ text) = omega arith

-- the mark of a text, by how long the text is
pub mark_of_three : (text : List ℕ) → length text < 5 → mark_of text ≡ three_of text
mark_of_three text short =
    ap (λ b. cond b (three_of text) (cond (nat_lt (length text) 8) (five_of text)
    (cond (nat_lt (length text) 12) (eight_of text) (twelve_of text)))) (below (length text) 5 short)

from_five : (text : List ℕ) → 5 ≤ length text
    → mark_of text ≡ cond (nat_lt (length text) 8) (five_of text) (cond (nat_lt (length text) 12) (eight_of text) (twelve_of text))
from_five text long =
    ap (λ b. cond b (three_of text) (cond (nat_lt (length text) 8) (five_of text)
    (cond (nat_lt (length text) 12) (eight_of text) (twelve_of text)))) (not_below (length text) 5 long)

from_eight : (text : List ℕ) → 8 ≤ length text → mark_of text ≡ cond (nat_lt (length text) 12) (eight_of text) (twelve_of text)
from_eight text long =
    from_five text (omega (arith, long))
    ∙ ap (λ b. cond b (five_of text) (cond (nat_lt (length text) 12) (eight_of text) (twelve_of text))) (not_below (length text) 8 long)

pub mark_of_five : (text : List ℕ) → 5 ≤ length text → length text < 8 → mark_of text ≡ five_of text
mark_of_five text long short =
    from_five text long
    ∙ ap (λ b. cond b (five_of text) (cond (nat_lt (length text) 12) (eight_of text) (twelve_of text))) (below (length text) 8 short)

pub mark_of_eight : (text : List ℕ) → 8 ≤ length text → length text < 12 → mark_of text ≡ eight_of text
mark_of_eight text long short = from_eight text long ∙ ap (λ b. cond b (eight_of text) (twelve_of text)) (below (length text) 12 short)

pub mark_of_twelve : (text : List ℕ) → 12 ≤ length text → mark_of text ≡ twelve_of text
mark_of_twelve text long =
    from_eight text (omega (arith, long)) ∙ ap (λ b. cond b (eight_of text) (twelve_of text)) (not_below (length text) 12 long)

-- a number is below another, or no less
either : {Z : Type 0} (k n : ℕ) → (k < n → Z) → (n ≤ k → Z) → Z
either k n less more = elim (split k n) [
  | inl h ↦ less h
  | inr (inl same) ↦ more (omega (arith, same))
  | inr (inr h) ↦ more (omega (arith, h))
]

-- a text has at most four bytes, or five to seven, or eight to eleven, or more
pub by_length : {Z : Type 0} (k : ℕ) → (k < 5 → Z) → (5 ≤ k → k < 8 → Z) → (8 ≤ k → k < 12 → Z) → (12 ≤ k → Z) → Z
by_length k three five eight twelve =
    either k 5 three (λ a. either k 8 (five a) (λ b. either k 12 (eight b) twelve))

pub mark_fits : (text : List ℕ) → mark_of text < 65536
mark_fits text = by_length (length text)
    (λ short. omega (arith, mark_of_three text short, three_fits text))
    (λ long short. omega (arith, mark_of_five text long short))
    (λ long short. omega (arith, mark_of_eight text long short))
    (λ long. omega (arith, mark_of_twelve text long))

pub bucket_fits : (text : List ℕ) → bucket_of text < 16384
bucket_fits text = omega arith

-- The buckets of no needles, and of one more.

pub put_long : (old new : Buckets) (needles : List IndexedText) (n : IndexedText) (was is : Vec ℕ Global)
    → 3 ≤ length n.text → slice_get old.long.items (bucket_of n.text) ≡ Some was
    → new.long.items ≡ set old.long.items (bucket_of n.text) is → is.items ≡ was.items ++ length needles ∷ []
    → new.fronts.items ≡ set old.fronts.items (front_of n.text) true
    → new.marks.items ≡ set old.marks.items (mark_of n.text) true
    → new.short.items ≡ old.short.items → AreBucketsOf old needles → AreBucketsOf new (needles ++ n ∷ [])
put_long old new needles n was is long had long_is is_is fronts_is marks_is short_is are = record {
  count = ap length long_is ∙ (set_length old.long.items (bucket_of n.text) is ∙ are.count);
  numbers = ap length fronts_is ∙ (set_length old.fronts.items (front_of n.text) true ∙ are.numbers);
  marked = ap length marks_is ∙ (set_length old.marks.items (mark_of n.text) true ∙ are.marked);
  fronts = λ j x got big. ap (λ l. slice_get l (front_of x.text)) fronts_is ∙ elim (got_append needles n j x got) [
    | inl before ↦ set_true old.fronts.items (front_of n.text) (front_of x.text) (are.fronts j x before big)
    | inr p ↦ ap (λ (y : IndexedText). slice_get (set old.fronts.items (front_of n.text) true) (front_of y.text)) p.1
        ∙ set_here old.fronts.items (front_of n.text) true (omega (arith, are.numbers, front_fits n.text))
  ];
  marks = λ j x got big. ap (λ l. slice_get l (mark_of x.text)) marks_is ∙ elim (got_append needles n j x got) [
    | inl before ↦ set_true old.marks.items (mark_of n.text) (mark_of x.text) (are.marks j x before big)
    | inr p ↦ ap (λ (y : IndexedText). slice_get (set old.marks.items (mark_of n.text) true) (mark_of y.text)) p.1
        ∙ set_here old.marks.items (mark_of n.text) true (omega (arith, are.marked, mark_fits n.text))
  ];
  long = λ j x got big. elim (got_append needles n j x got) [
    | inl before ↦ kept j x before big
    | inr p ↦ (
      is,
      ap (λ l. slice_get l (bucket_of x.text)) long_is
          ∙ (ap (λ (y : IndexedText). slice_get (set old.long.items (bucket_of n.text) is) (bucket_of y.text)) p.1
          ∙ set_here old.long.items (bucket_of n.text) is (slice_get_within old.long.items (bucket_of n.text) was had)),
      subst (λ l. IsAmong l j) (sym is_is) (subst (λ k. IsAmong (was.items ++ length needles ∷ []) k) (sym p.0) (among_end was.items (length needles))),
    )
  ];
  short = λ j x got small. elim (got_append needles n j x got) [
    | inl before ↦ subst (λ l. IsAmong l j) (sym short_is) (are.short j x before small)
    | inr p ↦ absurd (omega (arith, small, long, ap (λ (y : IndexedText). length y.text) p.1))
  ];
}
  where
    kept : (j : ℕ) (x : IndexedText) → slice_get needles j ≡ Some x → 3 ≤ length x.text
        → (places : Vec ℕ Global) × (slice_get new.long.items (bucket_of x.text) ≡ Some places) × IsAmong places.items j
    kept j x before big =
        let p = are.long j x before big in
        elim (split (bucket_of x.text) (bucket_of n.text)) [
          | inl less ↦ other (λ e. omega (arith, less, e)) p
          | inr (inl same) ↦ (
            is,
            ap (λ l. slice_get l (bucket_of x.text)) long_is
                ∙ (ap (λ k. slice_get (set old.long.items (bucket_of n.text) is) k) same
                ∙ set_here old.long.items (bucket_of n.text) is (slice_get_within old.long.items (bucket_of n.text) was had)),
            subst (λ l. IsAmong l j) (sym is_is) (among_more was.items (length needles ∷ []) j
                (subst (λ (v : Vec ℕ Global). IsAmong v.items j)
                (some_same p.0 was (sym p.1 ∙ (ap (λ k. slice_get old.long.items k) same ∙ had))) p.2)),
          )
          | inr (inr more) ↦ other (λ e. omega (arith, more, e)) p
        ]
      where
        other : bucket_of x.text ≢ bucket_of n.text
            → (places : Vec ℕ Global) × (slice_get old.long.items (bucket_of x.text) ≡ Some places) × IsAmong places.items j
            → (places : Vec ℕ Global) × (slice_get new.long.items (bucket_of x.text) ≡ Some places) × IsAmong places.items j
        other differs q = (
          q.0,
          ap (λ l. slice_get l (bucket_of x.text)) long_is
              ∙ set_there old.long.items (bucket_of n.text) (bucket_of x.text) is q.0 differs q.1,
          q.2,
        )

pub put_short : (old new : Buckets) (needles : List IndexedText) (n : IndexedText) → length n.text < 3
    → new.long.items ≡ old.long.items → new.fronts.items ≡ old.fronts.items → new.marks.items ≡ old.marks.items
    → new.short.items ≡ old.short.items ++ length needles ∷ []
    → AreBucketsOf old needles → AreBucketsOf new (needles ++ n ∷ [])
put_short old new needles n small long_is fronts_is marks_is short_is are = record {
  count = ap length long_is ∙ are.count;
  numbers = ap length fronts_is ∙ are.numbers;
  marked = ap length marks_is ∙ are.marked;
  fronts = λ j x got big. elim (got_append needles n j x got) [
    | inl before ↦ ap (λ l. slice_get l (front_of x.text)) fronts_is ∙ are.fronts j x before big
    | inr p ↦ absurd (omega (arith, big, small, ap (λ (y : IndexedText). length y.text) p.1))
  ];
  marks = λ j x got big. elim (got_append needles n j x got) [
    | inl before ↦ ap (λ l. slice_get l (mark_of x.text)) marks_is ∙ are.marks j x before big
    | inr p ↦ absurd (omega (arith, big, small, ap (λ (y : IndexedText). length y.text) p.1))
  ];
  long = λ j x got big. elim (got_append needles n j x got) [
    | inl before ↦ let p = are.long j x before big in (p.0, ap (λ l. slice_get l (bucket_of x.text)) long_is ∙ p.1, p.2)
    | inr p ↦ absurd (omega (arith, big, small, ap (λ (y : IndexedText). length y.text) p.1))
  ];
  short = λ j x got less. elim (got_append needles n j x got) [
    | inl before ↦ subst (λ l. IsAmong l j) (sym short_is) (among_more old.short.items (length needles ∷ []) j (are.short j x before less))
    | inr p ↦ subst (λ l. IsAmong l j) (sym short_is)
        (subst (λ k. IsAmong (old.short.items ++ length needles ∷ []) k) (sym p.0) (among_end old.short.items (length needles)))
  ];
}

pub below_three : (k : ℕ) → (3 ≤ k → ⊥) → k < 3
below_three k short = elim (split k 3) [
  | inl less ↦ less
  | inr (inl same) ↦ absurd (short (omega (arith, same)))
  | inr (inr more) ↦ absurd (short (omega (arith, more)))
]

-- A text that begins with a needle has its first bytes.

three_front : (k : ℕ) (front rest : List ℕ) → k + 3 ≤ length front → three_of (drop k (front ++ rest)) ≡ three_of (drop k front)
three_front k [] rest long = absurd (omega (arith, long))
three_front zero (a ∷ []) rest long = absurd (omega (arith, long))
three_front zero (a ∷ b ∷ []) rest long = absurd (omega (arith, long))
three_front zero (a ∷ b ∷ c ∷ front) rest long = refl
three_front (suc k) (a ∷ front) rest long = three_front k front rest (omega (arith, long))

three_same : (k : ℕ) (text front : List ℕ) → k + 3 ≤ length front → IsFrontOf text front
    → three_of (drop k front) ≡ three_of (drop k text)
three_same k text front long (rest, e) = sym (ap (λ t. three_of (drop k t)) e ∙ three_front k front rest long)

pub front_same : (text front : List ℕ) → 3 ≤ length front → IsFrontOf text front → front_of front ≡ front_of text
front_same text front long (rest, e) = same front long ∙ sym (ap front_of e)
  where
    same : (l : List ℕ) → 3 ≤ length l → front_of l ≡ front_of (l ++ rest)
    same [] long = absurd (omega (arith, long))
    same (a ∷ []) long = absurd (omega (arith, long))
    same (a ∷ b ∷ []) long = absurd (omega (arith, long))
    same (a ∷ b ∷ c ∷ l) long = refl

-- so it has one of four marks
pub front_mark : (text front : List ℕ) → 3 ≤ length front → IsFrontOf text front
    → (mark_of front ≡ three_of text) ⊎ ((mark_of front ≡ five_of text)
    ⊎ ((mark_of front ≡ eight_of text) ⊎ (mark_of front ≡ twelve_of text)))
front_mark text front long f = by_length (length front)
    (λ short. inl (mark_of_three front short ∙ three_same 0 text front long f))
    (λ five short. inr (inl (mark_of_five front five short
    ∙ (ap (λ a. five_at a (three_of (drop 2 front))) (three_same 0 text front long f)
    ∙ ap (λ a. five_at (three_of text) a) (three_same 2 text front (omega (arith, five)) f)))))
    (λ eight short. inr (inr (inl (mark_of_eight front eight short
    ∙ (ap (λ a. eight_at a (three_of (drop 2 front)) (three_of (drop 5 front))) (three_same 0 text front long f)
    ∙ (ap (λ a. eight_at (three_of text) a (three_of (drop 5 front))) (three_same 2 text front (omega (arith, eight)) f)
    ∙ ap (λ a. eight_at (three_of text) (three_of (drop 2 text)) a) (three_same 5 text front (omega (arith, eight)) f)))))))
    (λ twelve. inr (inr (inr (mark_of_twelve front twelve
    ∙ (ap (λ a. twelve_at a (three_of (drop 2 front)) (three_of (drop 5 front)) (three_of (drop 9 front))) (three_same 0 text front long f)
    ∙ (ap (λ a. twelve_at (three_of text) a (three_of (drop 5 front)) (three_of (drop 9 front)))
    (three_same 2 text front (omega (arith, twelve)) f)
    ∙ (ap (λ a. twelve_at (three_of text) (three_of (drop 2 text)) a (three_of (drop 9 front)))
    (three_same 5 text front (omega (arith, twelve)) f)
    ∙ ap (λ a. twelve_at (three_of text) (three_of (drop 2 text)) (three_of (drop 5 text)) a)
    (three_same 9 text front (omega (arith, twelve)) f))))))))

-- a text that ends before has no three bytes from a place on
pub three_missing : (k : ℕ) (text : List ℕ) → length text < k + 3 → three_of (drop k text) ≡ 0
three_missing zero [] short = refl
three_missing zero (a ∷ []) short = refl
three_missing zero (a ∷ b ∷ []) short = refl
three_missing zero (a ∷ b ∷ c ∷ text) short = absurd (omega (arith, short))
three_missing (suc k) [] short = refl
three_missing (suc k) (a ∷ text) short = three_missing k text (omega (arith, short))

pub front_long : (text front : List ℕ) → IsFrontOf text front → length front ≤ length text
front_long text front (rest, e) = omega (arith, ap length e, length-append front rest)

-- a needle in a text begins what is left from some place on
pub inside_front : (text needle : List ℕ) → HasSubslice text needle → (at : ℕ) × IsFrontOf (drop at text) needle
inside_front text needle (a, b, cut) = (length a, (b, ap (λ l. drop (length a) l) cut ∙ drop-append_seam a (needle ++ b)))

-- where no short needle and no front of what is left is past the end, no needle is
pub past_end : (text : List ℕ) (buckets : Buckets) (needles : List IndexedText) (short end : ℕ) → AreBucketsOf buckets needles
    → ((j : ℕ) (n : IndexedText) → IsAmong buckets.short.items j → slice_get needles j ≡ Some n → HasSubslice text n.text → j < short)
    → ((at j : ℕ) (n : IndexedText) → slice_get needles j ≡ Some n → 3 ≤ length n.text → IsFrontOf (drop at text) n.text → j < end)
    → short ≤ end → IsPast text needles end
past_end text buckets needles short end are shorts longs less j n from got has = elim (split (length n.text) 3) [
  | inl small ↦ omega (arith, from, less, shorts j n (are.short j n got small) got has)
  | inr (inl same) ↦ let f = inside_front text n.text has in omega (arith, from, longs f.0 j n got (omega (arith, same)) f.1)
  | inr (inr big) ↦ let f = inside_front text n.text has in omega (arith, from, longs f.0 j n got (omega (arith, big)) f.1)
]
