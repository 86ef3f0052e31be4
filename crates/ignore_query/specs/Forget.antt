-- What is forgotten, and for which other trees the rest is right.
use lib.Pointwise.{pointwise}
use Rattle.std.specs.Prelude.{◌≡◌, ℕ, ◌+◌, ◌≤◌, true, Bool, nat_eq, All, List, [], ◌∷◌, ◌++◌, Option, Some, filter, length, string_bytes}
use Rattle.std.specs.BTreeMap.{get_by_text}
use Rattle.std.specs.List.{IsDistinct, starts_with}
use Rattle.std.specs.Str.{bytes_eq}
use Rattle.ignore_base.specs.Text.{Bytes, Path}
use Rattle.ignore_base.specs.Paths.{IsName}
use Rattle.ignore_dir.specs.Above.{dirs_above, path_along, paths_above}
use Rattle.ignore_dir.specs.Load as load
use Rattle.ignore_dir.specs.Query.{is_dir_there}
use Rattle.ignore_dir.specs.Scene.{QueryScene}
use Rattle.ignore_files.specs.Tree.{Tree}
use Rattle.ignore_levels.specs.Levels.{floor_at, slots_of}
use Rattle.ignore_levels.specs.declared.list.Place.{Place}
use Rattle.ignore_levels.specs.declared.list.Slot.{Slot}
use Rattle.ignore_query.specs.declared.asked.Asked.{Asked}
use Rattle.ignore_query.specs.declared.kept.Cache.{Cache}
use Rattle.ignore_query.specs.declared.kept.Kept.{Kept}
use Rattle.ignore_query.specs.declared.kept.Kept.TheVariants.{Loaded}
use Rattle.ignore_query.specs.Agrees.{Agrees}
use Rattle.ignore_query.specs.Keys.{dirs_in}
use Rattle.ignore_query.specs.Listed.{kept_at}
use Rattle.ignore_query.specs.Needs.{is_among, is_kept}
use Rattle.ignore_query.specs.Reached.{scene_of}

-- the directory with some names is that with the names `front`, or is below it. `a`, `b` is at or
-- below `a`, and `ab` isn't
abbrev pub is_at_or_below : List Bytes → List Bytes → Bool
is_at_or_below front names = starts_with bytes_eq names front

-- the directories that are kept, each by its names
abbrev pub kept_dirs : Cache → List (List Bytes)
kept_dirs c = dirs_in c.dirs.map

-- those of them that are at or below the one with some names
abbrev pub kept_from : Cache → List Bytes → List (List Bytes)
kept_from c front = filter (is_at_or_below front) (kept_dirs c)

-- each directory that is kept is listed, and once; and nothing else is
pub record ListsKept (c : Cache) : Type 0 where
  pub once : IsDistinct (pointwise bytes_eq) (kept_dirs c)
  pub each : (names : List Bytes) → All IsName names → is_among (kept_dirs c) names ≡ is_kept c names
  pub named : All (All IsName) (kept_dirs c)

-- the key of the directory at a clean path
abbrev pub key_of : Path → Path
key_of [] = []
key_of (b ∷ bs) = (b ∷ bs) ++ 47 ∷ []

-- the key is that of the directory at a clean path, or of one below it
abbrev pub is_key_in : Path → Path → Bool
is_key_in dir key = starts_with nat_eq key (key_of dir)

-- what is kept is the same in another tree: the kind of the root and its canonical path, what
-- counts of the directories above it, and what each directory holds that is kept and not ignored
pub record IsSameKept (g h : QueryScene) (c : Cache) : Type 0 where
  pub root : c.has_above ≡ true → is_dir_there (h.tree.stat h.root true) ≡ is_dir_there (g.tree.stat g.root true)
  pub canonical : c.has_above ≡ true → h.tree.canonical h.root ≡ g.tree.canonical g.root
  pub above : c.has_above ≡ true → dirs_above h.loads h.settings (paths_above h.tree h.settings h.root)
      ≡ dirs_above g.loads g.settings (paths_above g.tree g.settings g.root)
  pub dirs : (names : List Bytes) (place : Option Place) → All IsName names → kept_at c names ≡ Some (Loaded place)
      → (h.loads (path_along h.root names)).0 ≡ (g.loads (path_along g.root names)).0

-- what is kept, and agrees with a tree, agrees with each other tree in which all of that is the same
abbrev pub SameKeptAgrees : Type 0
SameKeptAgrees = (a : Asked) (before after : Tree) (loads later : Path → load.Loaded) (c : Cache)
    → let g = scene_of a before loads in
    let h = scene_of a after later in
    Agrees g c → IsSameKept g h c → Agrees h c

-- the level at a place is that of what is kept, and its offset is at least a floor
abbrev pub IsFreed : List Slot → Kept → ℕ → Place → Type 0
IsFreed slots k floor at = (k ≡ Loaded (Some at)) × (floor ≤ floor_at slots (Some at))

-- what is kept of the directory with a key stands at this place, and the level there is that of a
-- directory at or below the one at a clean path
abbrev pub IsOwn : Cache → Path → Path → Place → Type 0
IsOwn c dir key at = (k : Kept) × (get_by_text c.dirs.map key ≡ Some k)
    × IsFreed (slots_of c.levels) k (length (string_bytes c.base) + length (key_of dir)) at
