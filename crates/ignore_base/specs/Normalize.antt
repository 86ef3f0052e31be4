-- Paths in normal form, and what is left of one below a root.
use Rattle.std.specs.Prelude.{◌≡◌, ◌≢◌, ◌==◌, ◌||◌, Bool, true, List, [], ◌∷◌, ◌++◌, length, drop, codes, Option, Some, None}
use Rattle.std.specs.Prelude.{if◌then◌else◌, ◌⊎◌}
use Rattle.std.specs.List.{starts_with}
use Rattle.std.specs.Option.{option_and_then, option_map}
use Rattle.std.specs.Str.{bytes_eq}
use Rattle.ignore_base.specs.Text.{Bytes, Path}
use Rattle.ignore_base.specs.Paths.{IsCleanPath, but_last, components, is_absolute, join_of, joined}

-- where one component leads from the directory with some names: an empty one and `.` nowhere else,
-- `..` one directory up, if there is one, and a name to what has it there
abbrev pub step : List Bytes → Bytes → List Bytes
step names component =
    if length component == 0 || bytes_eq component (codes ".") then names
    else if bytes_eq component (codes "..") then but_last names
    else names ++ component ∷ []

-- where components lead from there, one after the other
abbrev pub steps : List Bytes → List Bytes → List Bytes
steps names [] = names
steps names (component ∷ more) = steps (step names component) more

-- a path in full: a relative one is joined to the working directory, if that is known and absolute
abbrev pub full_path : Option Path → Path → Option Path
full_path None path = if is_absolute path then Some path else None
full_path (Some dir) path =
    if is_absolute path then Some path
    else if is_absolute dir then Some (join_of dir path)
    else None

-- the names from `/` to where a path leads: `/a/./b/../c` leads to `a`, `c`
abbrev pub names_from_root : Option Path → Path → Option (List Bytes)
names_from_root dir path = option_map (λ p. steps [] (components p)) (full_path dir path)

-- the names after those of a root, joined; none where the root's aren't the first of them
abbrev pub rest_below : List Bytes → List Bytes → Option Path
rest_below root names = if starts_with bytes_eq names root then Some (joined (drop (length root) names)) else None

-- there is nothing to compare: the root or the path is empty, or the root is `-`, for standard
-- input
abbrev pub is_without_names : Path → Path → Bool
is_without_names root path = length root == 0 || bytes_eq root (codes "-") || length path == 0

-- a path relative to a root, both in normal form, where relative ones are in the working directory
unfoldable pub normalize_of : Option Path → Path → Path → Option Path
normalize_of dir root path =
    if is_without_names root path then None
    else option_and_then (λ names. option_and_then (rest_below names) (names_from_root dir path)) (names_from_root dir root)

-- the working directory is known and absolute
abbrev pub IsKnown : Option Path → Type 0
IsKnown dir = (text : Path) × (dir ≡ Some text) × (is_absolute text ≡ true)

-- for each root but the empty one and `-`, and each clean path: the path joined to the root is
-- normalized to the path, where the root or the working directory is absolute
abbrev pub NormalizesJoined : Type 0
NormalizesJoined = (dir : Option Path) (root path : Path) → root ≢ [] → root ≢ codes "-" → IsCleanPath path
    → (is_absolute root ≡ true) ⊎ IsKnown dir → normalize_of dir root (join_of root path) ≡ Some path

-- what a path is normalized to is clean
abbrev pub NormalizesToClean : Type 0
NormalizesToClean = (dir : Option Path) (root path text : Path) → normalize_of dir root path ≡ Some text → IsCleanPath text
