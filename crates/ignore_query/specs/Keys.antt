-- The keys of the directories that a matcher keeps.
use Rattle.std.specs.Prelude.{◌≡◌, ◌-◌, All, List, Some, String, length, map, string_bytes, take}
use Rattle.std.specs.BTreeMap.{BTreeMap, get_by_text}
use Rattle.ignore_base.specs.Text.{Bytes, Path}
use Rattle.ignore_base.specs.Paths.{IsName}
use Rattle.ignore_dir.specs.Chains.{slashed}
use Rattle.ignore_dir.specs.Query.{names_of}

-- a text is the key of a directory: some names, each followed by a slash
abbrev pub IsKey : Path → Type 0
IsKey key = (names : List Bytes) × All IsName names × (key ≡ slashed names)

-- each key of a map is that of a directory
abbrev pub AreKeys : {Y X : Type 0} → BTreeMap (String Y) X → Type 0
AreKeys {X = X} dirs = (key : Path) (k : X) → get_by_text dirs key ≡ Some k → IsKey key

-- the names of the directory with a key
abbrev pub names_in : Path → List Bytes
names_in key = names_of (take (length key - 1) key)

-- the directories of a map by their names, in the order of their keys
abbrev pub dirs_in : {Y X : Type 0} → BTreeMap (String Y) X → List (List Bytes)
dirs_in dirs = map (λ entry. names_in (string_bytes entry.0)) dirs.entries
