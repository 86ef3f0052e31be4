-- What a directory lists, as C tells it.
use Rattle.std.specs.Prelude.{◌≡◌, ◌==◌, ◌⊎◌, ℕ, Bool, false, List, [], ◌∷◌, ◌++◌, Option, Some, None, Result, Ok, Err, length, map, slice_get, if◌then◌else◌}
use Rattle.std.specs.List.{slice_split}
use Rattle.std.specs.Str.{IsUtf8}
use Rattle.ignore_base.specs.Text.{Bytes}
use Rattle.ignore_guide.specs.declared.judge.Entry.{Entry}
use Rattle.ignore_kept.specs.declared.stopped.Stopped.{Stopped}
use Rattle.ignore_kept.specs.declared.stopped.Stopped.TheVariants.{NotUtf8, Memory as Full, Limit, Invalid, Misused, Tree}

-- the texts between the zeros of a text, empty ones included
abbrev pub pieces : Bytes → List Bytes
pieces text = slice_split (λ b. b == 0) text

-- a text has these names, each ended by a zero: nothing follows the last zero
abbrev pub AreNames : Bytes → List Bytes → Type 0
AreNames text names = pieces text ≡ names ++ [] ∷ []

-- each name of a text is ended by a zero
abbrev pub IsListing : Bytes → Type 0
IsListing text = (names : List Bytes) × AreNames text names

-- reading names gives those of the text, or says why not
abbrev pub ListsNames : Bytes → Result (List Bytes) Stopped → Type 0
ListsNames text (Ok names) = AreNames text names
ListsNames text (Err NotUtf8) = ¬ (IsUtf8 text)
ListsNames text (Err Misused) = ¬ (IsListing text)
ListsNames text (Err Full) = Unit {0}
ListsNames text (Err other) = ⊥

-- a size, if it is known
abbrev pub size_of : ℕ → Option ℕ
size_of size = if size == 18446744073709551615 then None else Some size

-- the size at an index, if it is known
abbrev pub known : Option ℕ → Option ℕ
known None = None
known (Some size) = size_of size

-- a kind is that of a directory
abbrev pub is_dir_kind : Option ℕ → Bool
is_dir_kind None = false
is_dir_kind (Some kind) = kind == 2

-- entries have these names, kinds and sizes, in their order; where there are no sizes none is known
pub record AreEntries (names : List Bytes) (kinds sizes : List ℕ) (entries : List Entry) : Type 0 where
  pub named : map (λ e. e.name.now) entries ≡ names
  pub dirs : (i : ℕ) (e : Entry) → slice_get entries i ≡ Some e → e.is_dir ≡ is_dir_kind (slice_get kinds i)
  pub sized : (i : ℕ) (e : Entry) → slice_get entries i ≡ Some e → e.size ≡ known (slice_get sizes i)

-- a listing has as many kinds as names, and as many sizes, or none
abbrev pub AreAsMany : List Bytes → List ℕ → List ℕ → Type 0
AreAsMany names kinds sizes = (length names ≡ length kinds) × ((length sizes ≡ 0) ⊎ (length sizes ≡ length names))

-- the entries of a listing, or why it has none
abbrev pub ListsEntries : Bytes → List ℕ → List ℕ → Result (List Entry) Stopped → Type 0
ListsEntries text kinds sizes (Ok entries) = (names : List Bytes) × AreNames text names × AreAsMany names kinds sizes × AreEntries names kinds sizes entries
ListsEntries text kinds sizes (Err NotUtf8) = ¬ (IsUtf8 text)
ListsEntries text kinds sizes (Err Misused) = (names : List Bytes) → AreNames text names → ¬ (AreAsMany names kinds sizes)
ListsEntries text kinds sizes (Err Full) = Unit {0}
ListsEntries text kinds sizes (Err other) = ⊥
