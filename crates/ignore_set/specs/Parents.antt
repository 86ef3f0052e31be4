-- What stands under the parents of texts.
use Rattle.std.specs.Prelude.{◌≡◌, ℕ, ◌+◌, ◌*◌, ◌/◌, ◌%◌, ◌^◌, ◌≤◌, List, [], ◌∷◌, length, slice_get, Some, bit_or}
use Rattle.std.specs.BTreeMap.{get_by_text}
use Rattle.std.specs.List.{IsAmong}
use Rattle.std.specs.Option.{option_map_or}
use Rattle.ignore_glob.specs.Ends.{HasParent}
use Rattle.ignore_set.specs.declared.parents.Parents.{Parents}

-- one of 65,536 numbers
abbrev pub number_of : List ℕ → ℕ
number_of [] = 0
number_of (b ∷ text) = (number_of text * 31 + b) % 65536

-- among these words is none for the number of a text, or it has the bit of it
abbrev pub HasBit : List ℕ → List ℕ → Type 0
HasBit words text =
    (word : ℕ) → slice_get words (number_of text / 64) ≡ Some word → bit_or (2 ^ (number_of text % 64)) word ≡ word

-- the indexes of the patterns under a parent
abbrev pub indexes_at : Parents → List ℕ → List ℕ
indexes_at parents parent = option_map_or (λ indexes. indexes.items) (get_by_text parents.lists parent) []

-- a parent is no longer than the longest that is noted, and has its bit
abbrev pub IsNotedUnder : Parents → List ℕ → Type 0
IsNotedUnder parents parent = (length parent ≤ parents.longest) × HasBit parents.words.items parent

-- the pattern at this index stands under the parent of the text, and that is noted
abbrev pub StandsUnder : Parents → ℕ → List ℕ → Type 0
StandsUnder parents i text =
    (parent : List ℕ) × HasParent parent text × IsNotedUnder parents parent × IsAmong (indexes_at parents parent) i
