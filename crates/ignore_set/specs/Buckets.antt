-- Where the needles of a large set stand, by their first bytes.
use Rattle.std.specs.Prelude.{◌≡◌, ℕ, ◌<◌, ◌≤◌, ◌++◌, List, length, slice_get, Some, true, Vec}
use Rattle.std.specs.Global.{Global}
use Rattle.std.specs.List.{IsAmong}
use Rattle.std.specs.Str.Iter.{HasSubslice}
use Rattle.ignore_set.specs.Others.{IndexedText, bucket_of, front_of, mark_of}
use Rattle.ignore_set.specs.declared.buckets.Buckets.{Buckets}

-- the text begins with this one
abbrev pub IsFrontOf : List ℕ → List ℕ → Type 0
IsFrontOf text front = (rest : List ℕ) × (text ≡ front ++ rest)

-- no needle at this place or a later one is in the text
abbrev pub IsPast : List ℕ → List IndexedText → ℕ → Type 0
IsPast text needles end = (j : ℕ) (n : IndexedText) → end ≤ j → slice_get needles j ≡ Some n → HasSubslice text n.text → ⊥

-- there are 16,384 buckets, and each needle's place is in the one of its first bytes, or among the
-- short ones; it is noted of each needle but the short ones by which three bytes it begins, and its
-- mark
pub record AreBucketsOf (buckets : Buckets) (needles : List IndexedText) : Type 0 where
  pub count : length buckets.long.items ≡ 16384
  pub numbers : length buckets.fronts.items ≡ 65536
  pub marked : length buckets.marks.items ≡ 65536
  pub fronts : (j : ℕ) (n : IndexedText) → slice_get needles j ≡ Some n → 3 ≤ length n.text
      → slice_get buckets.fronts.items (front_of n.text) ≡ Some true
  pub marks : (j : ℕ) (n : IndexedText) → slice_get needles j ≡ Some n → 3 ≤ length n.text
      → slice_get buckets.marks.items (mark_of n.text) ≡ Some true
  pub long : (j : ℕ) (n : IndexedText) → slice_get needles j ≡ Some n → 3 ≤ length n.text
      → (places : Vec ℕ Global) × (slice_get buckets.long.items (bucket_of n.text) ≡ Some places) × IsAmong places.items j
  pub short : (j : ℕ) (n : IndexedText) → slice_get needles j ≡ Some n → length n.text < 3 → IsAmong buckets.short.items j
