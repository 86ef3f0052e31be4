-- Patterns that no table has, and their needles: texts without which they don't match.
use Rattle.std.specs.Prelude.{◌≡◌, ◌⊎◌, ℕ, ◌+◌, ◌*◌, ◌^◌, ◌%◌, ◌<◌, ◌≤◌, nat_lt, Bool, cond, List, [], ◌∷◌, length, drop, slice_get, Some, bit_or, refl}
use Rattle.std.specs.Coded.{Coded, code_by, coded×, coded_list, coded_ℕ}
use Rattle.std.specs.List.{IsAmong}
use Rattle.std.specs.Str.{chars, IsUtf8}
use Rattle.std.specs.Str.Iter.{HasSubslice}
use Rattle.ignore_glob.specs.Forms.{other, form_of}
use Rattle.ignore_glob.specs.Reading.{Matches}
use Rattle.ignore_set.specs.Parents.{StandsUnder, indexes_at}
use Rattle.ignore_set.specs.Sets.{Member, Applies, pass_bound}
use Rattle.ignore_set.specs.declared.parents.Parents.{Parents}

-- a needle: the index of a pattern, and a text
pub record IndexedText : Type 0 where
  pub index : ℕ
  pub text : List ℕ

-- the code of a needle
abbrev pub indexed_text_code : Coded IndexedText
indexed_text_code =
    code_by (ℕ × List ℕ) (coded× coded_ℕ (coded_list coded_ℕ)) (λ n. (n.index, n.text))
    (λ p. record { index = p.0; text = p.1 }) (λ _. refl)

-- one of 64 bits, for three bytes
abbrev pub bit_of : ℕ → ℕ → ℕ → ℕ
bit_of a b c = 2 ^ ((a * 37 + b * 101 + c * 5) % 64)

-- the bit of the first three bytes, or none where there are fewer
abbrev pub first_bit : List ℕ → ℕ
first_bit [] = 0
first_bit (a ∷ []) = 0
first_bit (a ∷ b ∷ []) = 0
first_bit (a ∷ b ∷ c ∷ text) = bit_of a b c

-- the bits of each three bytes that follow each other
abbrev pub mask_of : List ℕ → ℕ
mask_of [] = 0
mask_of (a ∷ text) = bit_or (first_bit (a ∷ text)) (mask_of text)

-- a mask has the bits of each text that is in this one
abbrev pub IsMaskOver : List ℕ → ℕ → Type 0
IsMaskOver text mask = (inside : List ℕ) → HasSubslice text inside → bit_or (mask_of inside) mask ≡ mask

-- one of 65,536 numbers, for the first three bytes, or 0 where there are fewer
abbrev pub front_of : List ℕ → ℕ
front_of [] = 0
front_of (a ∷ []) = 0
front_of (a ∷ b ∷ []) = 0
front_of (a ∷ b ∷ c ∷ text) = (a * 2111 + b * 89 + c) % 65536

-- one of 4,096 numbers, for three bytes
abbrev pub mixed : ℕ → ℕ → ℕ → ℕ
mixed a b c = (a * 577 + b * 37 + c) % 4096

-- the number of the first three bytes, or 0 where there are fewer
abbrev pub three_of : List ℕ → ℕ
three_of [] = 0
three_of (a ∷ []) = 0
three_of (a ∷ b ∷ []) = 0
three_of (a ∷ b ∷ c ∷ text) = mixed a b c

-- one of 4,096 numbers more, for those of bytes 0 to 2 and 2 to 4
abbrev pub five_at : ℕ → ℕ → ℕ
five_at first second = 4096 + (first * 61 + second) % 4096

-- one of 16,384 numbers more, for these and that of bytes 5 to 7
abbrev pub eight_at : ℕ → ℕ → ℕ → ℕ
eight_at first second third = 16384 + (first * 67 + second * 131 + third) % 16384

-- one of 32,768 numbers more, for these and that of bytes 9 to 11
abbrev pub twelve_at : ℕ → ℕ → ℕ → ℕ → ℕ
twelve_at first second third fourth = 32768 + (first * 67 + second * 131 + third * 263 + fourth) % 32768

-- the number of the first five bytes, of the first eight, and of the first twelve
abbrev pub five_of : List ℕ → ℕ
five_of text = five_at (three_of text) (three_of (drop 2 text))

abbrev pub eight_of : List ℕ → ℕ
eight_of text = eight_at (three_of text) (three_of (drop 2 text)) (three_of (drop 5 text))

abbrev pub twelve_of : List ℕ → ℕ
twelve_of text = twelve_at (three_of text) (three_of (drop 2 text)) (three_of (drop 5 text)) (three_of (drop 9 text))

-- the mark of a text: by its first three bytes, or by five, eight or twelve where it has so many
abbrev pub mark_of : List ℕ → ℕ
mark_of text =
    cond (nat_lt (length text) 5) (three_of text)
    (cond (nat_lt (length text) 8) (five_of text) (cond (nat_lt (length text) 12) (eight_of text) (twelve_of text)))

-- the bucket of a text, by its mark
abbrev pub bucket_of : List ℕ → ℕ
bucket_of text = mark_of text % 16384

-- a needle of the pattern at this index is in the text
abbrev pub HasNeedle : List IndexedText → ℕ → List ℕ → Type 0
HasNeedle needles i text = (j : ℕ) × (n : IndexedText) × (slice_get needles j ≡ Some n) × (n.index ≡ i) × HasSubslice text n.text

-- needles of patterns of no form, by rising indexes
pub record AreNeedlesOf (needles : List IndexedText) (ms : List Member) : Type 0 where
  pub rising : (j k : ℕ) (a b : IndexedText) → j ≤ k → slice_get needles j ≡ Some a → slice_get needles k ≡ Some b → a.index ≤ b.index
  pub formless : (j : ℕ) (n : IndexedText) → slice_get needles j ≡ Some n
      → (m : Member) × (slice_get ms n.index ≡ Some m) × (form_of m.reading ≡ other)

-- indexes of patterns of no form, each greater than those before it
pub record AreUnderOf (under : List ℕ) (ms : List Member) : Type 0 where
  pub rising : (k l i j : ℕ) → k < l → slice_get under k ≡ Some i → slice_get under l ≡ Some j → i < j
  pub formless : (k i : ℕ) → slice_get under k ≡ Some i → (m : Member) × (slice_get ms i ≡ Some m) × (form_of m.reading ≡ other)

-- no needle is of a pattern at one of these indexes
abbrev pub AreApart : List IndexedText → List ℕ → Type 0
AreApart needles under = (j k : ℕ) (n : IndexedText) → slice_get needles j ≡ Some n → slice_get under k ≡ Some n.index → ⊥

-- each pattern of no form has needles, one of which is in each text that it matches, or it stands
-- under the one parent of these texts, but not both
pub record AreOthers (others : List IndexedText) (parents : Parents) (ms : List Member) : Type 0 where
  pub each : (i : ℕ) (m : Member) → slice_get ms i ≡ Some m → form_of m.reading ≡ other
      → (text : List ℕ) → IsUtf8 text → Matches m.reading (chars text) → HasNeedle others i text ⊎ StandsUnder parents i text
  pub needles : AreNeedlesOf others ms
  pub under : (parent : List ℕ) → AreUnderOf (indexes_at parents parent) ms
  pub apart : (parent : List ℕ) → AreApart others (indexes_at parents parent)

-- each pattern of no form that matches this text has one of these needles in it, or stands at one of
-- these indexes, but not both
pub record AreCandidates (text : List ℕ) (others : List IndexedText) (indexes : List ℕ) (ms : List Member) : Type 0 where
  pub each : (i : ℕ) (m : Member) → slice_get ms i ≡ Some m → form_of m.reading ≡ other → Matches m.reading (chars text)
      → HasNeedle others i text ⊎ IsAmong indexes i
  pub needles : AreNeedlesOf others ms
  pub under : AreUnderOf indexes ms
  pub apart : AreApart others indexes

-- n is one more than an index, no less than this one, at which a pattern applies, or 0
abbrev pub IsAfterMatch : List ℕ → Bool → List Member → ℕ → ℕ → Type 0
IsAfterMatch text is_dir ms least n =
    (n ≡ 0) ⊎ ((i : ℕ) × (m : Member) × (n ≡ i + 1) × (least ≤ i) × (slice_get ms i ≡ Some m) × Applies (chars text) is_dir m)

-- of these indexes all but the first, so many, were tried: none at which a pattern applies is `after`
-- or more
abbrev pub AreTried : List ℕ → Bool → List Member → List ℕ → ℕ → ℕ → Type 0
AreTried text is_dir ms under after left =
    (k i : ℕ) (m : Member) → left ≤ k → slice_get under k ≡ Some i → slice_get ms i ≡ Some m → Applies (chars text) is_dir m → i < after

-- `after` is one more than the greatest of these indexes, no less than `least`, at which a pattern
-- applies, or 0; and the first of them, so many, are less than `least` or than `after`
pub record IsFoundUnder (text : List ℕ) (is_dir : Bool) (ms : List Member) (under : List ℕ) (least after left : ℕ) : Type 0 where
  pub within : left ≤ length under
  pub below : (k i : ℕ) → k < left → slice_get under k ≡ Some i → (i < least) ⊎ (i < after)
  pub above : AreTried text is_dir ms under after left
  pub last : IsAfterMatch text is_dir ms least after

-- `after` is one more than the greatest index, no less than `best`, at which a pattern applies whose
-- needle is in the text, or one of these indexes of which the first, so many, are less; or it is 0,
-- and these weren't tried
pub record IsFoundInTurn (text : List ℕ) (is_dir : Bool) (ms : List Member) (others : List IndexedText) (under : List ℕ)
    (best after left : ℕ) : Type 0 where
  pub within : left ≤ length under
  pub needles : (j : ℕ) (n : IndexedText) (m : Member) → slice_get others j ≡ Some n → slice_get ms n.index ≡ Some m
      → HasSubslice text n.text → Applies (chars text) is_dir m → (n.index < after) ⊎ (n.index < best)
  pub below : (after ≡ 0) ⊎ ((k i : ℕ) → k < left → slice_get under k ≡ Some i → i < after)
  pub above : AreTried text is_dir ms under after left
  pub last : IsAfterMatch text is_dir ms best after

-- all of these indexes are less than t
abbrev pub AreBelow : List ℕ → ℕ → ℕ → Type 0
AreBelow under left t = (k i : ℕ) → k < left → slice_get under k ≡ Some i → i < t

-- so many passes are at most those of the patterns from `least` on that are before t, where t is
-- greater than all of these indexes
abbrev pub IsWithinPasses : List Member → List ℕ → ℕ → ℕ → Type 0
IsWithinPasses ms under least passes =
    (t : ℕ) → least ≤ t → AreBelow under (length under) t → passes + pass_bound (drop t ms) ≤ pass_bound (drop least ms)

-- n is one more than the greatest index at which a pattern of no form applies, or `best` where that
-- is no less
pub record IsFoundFrom (text : List ℕ) (is_dir : Bool) (ms : List Member) (best n : ℕ) : Type 0 where
  pub kept : best ≤ n
  pub above : (i : ℕ) (m : Member) → slice_get ms i ≡ Some m → form_of m.reading ≡ other → Applies (chars text) is_dir m → i < n
  pub last : (n ≡ best) ⊎ ((i : ℕ) × (m : Member) × (n ≡ i + 1) × (slice_get ms i ≡ Some m) × Applies (chars text) is_dir m)
