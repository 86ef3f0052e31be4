-- What an index keeps of the patterns that it was made of.
use Rattle.std.specs.Prelude.{◌≡◌, ◌⊎◌, ℕ, ◌+◌, ◌*◌, ◌/◌, ◌%◌, ◌<◌, Bool, cond, List, [], ◌∷◌, length, slice_get, get_or, Some, bit_or}
use Rattle.std.specs.BTreeMap.{get_by_text}
use Rattle.std.specs.List.{IsAmong}
use Rattle.std.specs.Option.{unwrap_or}
use Rattle.std.specs.Str.{chars, IsUtf8}
use Rattle.ignore_glob.specs.Forms.{Form, whole, name, ending, other, form_of}
use Rattle.ignore_set.specs.Buckets.{AreBucketsOf}
use Rattle.ignore_glob.specs.Ends.{HasEnd, HasName}
use Rattle.ignore_set.specs.Others.{AreOthers, bit_of}
use Rattle.ignore_set.specs.Sets.{Member, Allows, Applies}
use Rattle.ignore_set.specs.declared.index.Index.{Index}
use Rattle.ignore_set.specs.declared.table.Slot.{Slot}
use Rattle.ignore_set.specs.declared.table.Table.{Table}
use Rattle.ignore_set.specs.declared.text.Ending.{Ending}
use Rattle.ignore_set.specs.declared.text.Ending.TheVariants.{Name, End}

-- n is one more than the greatest index of a pattern with this property, or 0 where none has it
pub record IsAfterLast (P : Member → Type 0) (ms : List Member) (n : ℕ) : Type 0 where
  pub above : (i : ℕ) (m : Member) → slice_get ms i ≡ Some m → P m → i < n
  pub last : (n ≡ 0) ⊎ ((i : ℕ) × (m : Member) × (n ≡ i + 1) × (slice_get ms i ≡ Some m) × P m)

-- what stands under a text
abbrev pub slot_at : Table → List ℕ → Slot
slot_at table text = unwrap_or (get_by_text table.slots text) (record { file = 0; dir = 0 })

-- one more than an index, for this kind of text
abbrev pub after : Bool → Slot → ℕ
after is_dir slot = cond is_dir slot.dir slot.file

-- a slot, once the pattern at this index stands there too
abbrev pub slot_with : ℕ → Bool → Slot → Slot
slot_with index only_dir slot = record { file = cond only_dir slot.file (index + 1); dir = index + 1 }

-- the bit of a text, by its first byte, its last one, and how many follow the first
abbrev pub end_bit : List ℕ → ℕ
end_bit [] = 0
end_bit (a ∷ text) = bit_of a (get_or (a ∷ text) (length text) 0) (length text % 256)

-- the one of 16 words that has the bit of a text
abbrev pub end_word : List ℕ → ℕ
end_word [] = 0
end_word (a ∷ text) = (a * 37 + get_or (a ∷ text) (length text) 0 * 101 + (length text % 256) * 5) / 64 % 16

-- a table has the bit of a text
abbrev pub IsMarked : Table → List ℕ → Type 0
IsMarked table text = bit_or (end_bit text) (get_or table.marks (end_word text) 0) ≡ get_or table.marks (end_word text) 0

-- a table has the length of a text, and its bit
abbrev pub IsNoted : Table → List ℕ → Type 0
IsNoted table text = IsAmong table.lengths.items (length text) × IsMarked table text

-- the table of the patterns of a form: the last under each text for each kind; and the texts are
-- noted
pub record IsTableOf (form : List ℕ → Form) (table : Table) (ms : List Member) : Type 0 where
  pub slots : (is_dir : Bool) (text : List ℕ) → IsAfterLast (λ m. (form_of m.reading ≡ form text) × Allows is_dir m) ms
      (after is_dir (slot_at table text))
  pub noted : (i : ℕ) (m : Member) (text : List ℕ) → slice_get ms i ≡ Some m → form_of m.reading ≡ form text
      → IsUtf8 text × IsNoted table text

-- the index is one of these patterns, in their order
pub record IsIndexOf (index : Index) (ms : List Member) : Type 0 where
  pub whole : IsTableOf whole index.whole ms
  pub names : IsTableOf name index.names ms
  pub ends : IsTableOf ending index.ends ms
  pub others : AreOthers index.others.items index.parents ms
  pub buckets : 0 < length index.buckets.long.items → AreBucketsOf index.buckets index.others.items

-- the text ends with this one, after a slash where that is asked
abbrev pub Fits : Ending → List ℕ → List ℕ → Type 0
Fits Name end text = HasName end text
Fits End end text = HasEnd end text

-- n stands under the end of a text, or is 0
abbrev pub StandsUnderEnd : Ending → Table → Bool → List ℕ → ℕ → Type 0
StandsUnderEnd how table is_dir text n =
    (n ≡ 0) ⊎ ((end : List ℕ) × IsUtf8 end × Fits how end text × (n ≡ after is_dir (slot_at table end)))

-- n is one more than the greatest index of a pattern of one of the three forms that applies, or 0
pub record IsExactOf (text : List ℕ) (is_dir : Bool) (ms : List Member) (n : ℕ) : Type 0 where
  pub above : (i : ℕ) (m : Member) → slice_get ms i ≡ Some m → Applies (chars text) is_dir m → (form_of m.reading ≡ other → ⊥) → i < n
  pub last : (n ≡ 0) ⊎ ((i : ℕ) × (m : Member) × (n ≡ i + 1) × (slice_get ms i ≡ Some m) × Applies (chars text) is_dir m)
