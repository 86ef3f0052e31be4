-- Paths as lists of components: joining, stripping, file names, and clean paths and roots.
use Rattle.std.specs.Prelude.{◌≡◌, ◌≢◌, ℕ, ◌-◌, ◌+◌, slice_index, Bool, false, ◌||◌, ◌&&◌, not, ◌==◌, nat_eq, List, [], ◌∷◌, ◌++◌, length}
use Rattle.std.specs.Prelude.{drop, Option, Some, None, unwrap_or, Contains, All, codes, if◌then◌else◌, ◌⊎◌}
use Rattle.std.specs.List.{slice_split, join_with_byte, starts_with, list_all, list_any}
use Rattle.std.specs.Option.{option_map}
use Rattle.std.specs.Str.{bytes_eq}
use Rattle.ignore_base.specs.Text.{Bytes, Path, is_slash}

-- the components of a path: the texts between its slashes, empty ones included
abbrev pub components : Path → List Bytes
components path = slice_split is_slash path

-- components joined by single slashes
abbrev pub joined : List Bytes → Path
joined = join_with_byte 47

-- the last of the components
abbrev pub last_component : List Bytes → Bytes
last_component [] = []
last_component (component ∷ []) = component
last_component (component ∷ (next ∷ more)) = last_component (next ∷ more)

-- the components but the last
abbrev pub but_last : List Bytes → List Bytes
but_last [] = []
but_last (component ∷ []) = []
but_last (component ∷ (next ∷ more)) = component ∷ but_last (next ∷ more)

-- the component alone, or nothing where it is empty
abbrev pub filled : Bytes → List Bytes
filled [] = []
filled (b ∷ bs) = (b ∷ bs) ∷ []

-- the components without an empty last one
abbrev pub whole_components : List Bytes → List Bytes
whole_components [] = []
whole_components (component ∷ []) = filled component
whole_components (component ∷ (next ∷ more)) = component ∷ whole_components (next ∷ more)

-- the path begins with a slash
abbrev pub is_absolute : Path → Bool
is_absolute path = is_slash (slice_index path 0)

-- the path ends with a slash
abbrev pub ends_with_slash : Path → Bool
ends_with_slash path = is_slash (slice_index path (length path - 1))

-- the directory of a path: what precedes its last slash. It is `/` for a path directly below `/`,
-- and empty for a path without a slash
abbrev pub folder_of : Path → Path
folder_of path = let folder = joined (but_last (components path)) in if is_absolute path && length folder == 0 then codes "/" else folder

-- the second path where it begins with a slash; else the components of the first, without an empty
-- last one, and then those of the second
unfoldable pub join_of : Path → Path → Path
join_of base path = if is_absolute path then path else joined (whole_components (components base) ++ components path)

-- a component as a name: `.` and `..` are none
abbrev pub name_in : Bytes → Option Bytes
name_in component = if bytes_eq component (codes ".") || bytes_eq component (codes "..") then None else Some component

-- the file name of a path is its last component; `.`, `..` and the empty path have none
unfoldable pub file_name_of : Path → Option Bytes
file_name_of [] = None
file_name_of (b ∷ bs) = name_in (last_component (components (b ∷ bs)))

-- its file name begins with a dot
abbrev pub IsHidden : Path → Type 0
IsHidden path = (rest : Bytes) × (file_name_of path ≡ Some (46 ∷ rest))

-- a prefix ends at a component: it is empty or ends with a slash, or the rest is empty or begins
-- with one
abbrev pub at_bound : Path → Path → Bool
at_bound prefix rest = length prefix == 0 || ends_with_slash prefix || length rest == 0 || is_absolute rest

-- the path without a prefix that ends at a component
unfoldable pub strip_prefix_of : Path → Path → Option Path
strip_prefix_of prefix path =
    let rest = drop (length prefix) path in
    if starts_with nat_eq path prefix && at_bound prefix rest then Some rest else None

-- the path without one leading `./`
abbrev pub trim_of : Path → Path
trim_of path = if starts_with nat_eq path (codes "./") then drop 2 path else path

-- the path without one leading slash
abbrev pub without_slash : Path → Path
without_slash path = if is_absolute path then drop 1 path else path

-- a root is the working directory: it begins with a dot, and each of its components is `.` or empty
abbrev pub is_dot : Path → Bool
is_dot root = slice_index root 0 == 46 && list_all (λ component. bytes_eq component (codes ".") || length component == 0) (components root)

-- the path has a slash
abbrev pub has_slash : Path → Bool
has_slash path = list_any is_slash path

-- the path without the root and one slash after it; the path unchanged where the root is the
-- working directory, where the path has no slash, and where the root is no prefix that ends at a
-- component
unfoldable pub below : Path → Path → Path
below root path =
    if is_dot root || not (has_slash path) then path
    else unwrap_or (option_map without_slash (strip_prefix_of root path)) path

-- the same for the path without one leading `./`
abbrev pub strip_of : Path → Path → Path
strip_of root path = below root (trim_of path)

-- a name: a text that is not empty, has no slash, and is not `.` or `..`
pub record IsName (text : Bytes) : Type 0 where
  pub filled : text ≢ []
  pub whole : ¬ Contains text 47
  pub no_dot : text ≢ codes "."
  pub no_dots : text ≢ codes ".."

-- the component is a name: it is not empty, `.` or `..`
abbrev pub is_proper : Bytes → Bool
is_proper component = not (length component == 0) && not (bytes_eq component (codes ".")) && not (bytes_eq component (codes ".."))

-- a clean path: names joined by single slashes (no names are the empty path)
abbrev pub IsCleanPath : Path → Type 0
IsCleanPath path = (names : List Bytes) × All IsName names × (path ≡ joined names)

-- what may stand before the names of a root: nothing, a slash, or a dot and a slash
abbrev pub IsLead : Bytes → Type 0
IsLead lead = (lead ≡ []) ⊎ ((lead ≡ codes "/") ⊎ (lead ≡ codes "./"))

-- what may stand after them: nothing, or a slash
abbrev pub IsEnd : Bytes → Type 0
IsEnd end = (end ≡ []) ⊎ (end ≡ codes "/")

-- a clean root: `.`, `./`, `/`; or at least one name, after nothing, a slash or `./`; or at least
-- one `..` and then names. One slash may follow. `-` is no clean root
pub data IsCleanRoot (root : Path) : Type 0 where
  dot : root ≡ codes "." → IsCleanRoot root
  dot_slash : root ≡ codes "./" → IsCleanRoot root
  slash : root ≡ codes "/" → IsCleanRoot root
  named : (lead name : Bytes) (names : List Bytes) (end : Bytes) → IsLead lead → IsName name → All IsName names → IsEnd end
      → root ≡ lead ++ (joined (name ∷ names) ++ end) → root ≢ codes "-" → IsCleanRoot root
  above : (ups names : List Bytes) (end : Bytes) → All (λ up. up ≡ codes "..") ups → All IsName names → IsEnd end
      → root ≡ joined ((codes ".." ∷ ups) ++ names) ++ end → IsCleanRoot root

-- the directory with these names below a root
abbrev pub directory_of : Path → List Bytes → Path
directory_of root [] = root
directory_of root (name ∷ names) = join_of root (joined (name ∷ names))

-- for each clean root and each directory below it: the trimmed directory, stripped from a path
-- below the directory, leaves the names after it
abbrev pub StripsDirectories : Type 0
StripsDirectories = (root : Path) (names : List Bytes) (name : Bytes) (more : List Bytes)
    → IsCleanRoot root → All IsName names → IsName name → All IsName more
    → strip_of (trim_of (directory_of root names)) (join_of root (joined (names ++ (name ∷ more)))) ≡ joined (name ∷ more)

-- for each root, each directory below it and a path of names below that directory: the path joined
-- to the directory is all the names joined to the root
abbrev pub JoinsNames : Type 0
JoinsNames = (root : Path) (names : List Bytes) (name : Bytes) (more : List Bytes)
    → All IsName names → IsName name → All IsName more
    → join_of (directory_of root names) (joined (name ∷ more)) ≡ join_of root (joined (names ++ (name ∷ more)))

-- the same for one name: it leads to the directory with one name more
abbrev pub JoinsName : Type 0
JoinsName = (root : Path) (names : List Bytes) (name : Bytes) → All IsName names → IsName name
    → join_of (directory_of root names) name ≡ directory_of root (names ++ name ∷ [])

-- where what is joined to a directory begins: after the directory, and after one slash unless the
-- directory is empty or ends with one. It is 2 for `a`, `a/` and `./`
abbrev pub offset_below : Path → ℕ
offset_below dir = if length dir == 0 || ends_with_slash dir then length dir else length dir + 1

-- for each directory and each relative path: what follows the offset of the directory in the two
-- joined is the path
abbrev pub LeavesThePath : Type 0
LeavesThePath = (dir path : Path) → is_absolute path ≡ false → drop (offset_below dir) (join_of dir path) ≡ path

-- for each clean root and each directory below it: the trimmed directory, stripped from a path
-- below the directory, leaves what follows the offset of the directory
abbrev pub StripsByOffset : Type 0
StripsByOffset = (root : Path) (names : List Bytes) (name : Bytes) (more : List Bytes)
    → IsCleanRoot root → All IsName names → IsName name → All IsName more
    → strip_of (trim_of (directory_of root names)) (join_of root (joined (names ++ (name ∷ more))))
    ≡ drop (offset_below (directory_of root names)) (join_of root (joined (names ++ (name ∷ more))))
