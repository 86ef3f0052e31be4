-- Trees and systems whose listings are whole.
use Rattle.std.specs.Prelude.{◌≡◌, Bool, true, false, ◌&&◌, not, List, map, Result, Ok, is_ok, bytes_eq}
use Rattle.std.specs.Char.{is_ascii, to_ascii_lowercase}
use Rattle.std.specs.List.{list_all}
use Rattle.ignore_base.specs.Text.{Bytes, Path}
use Rattle.ignore_base.specs.Paths.{has_slash, is_absolute, is_proper, join_of}
use Rattle.ignore_base.specs.declared.fault.Fault.{Fault}
use Rattle.ignore_files.specs.Tree.{Tree, Answers}
use Rattle.ignore_files.specs.declared.types.Refusal.{Refusal}
use Rattle.ignore_files.specs.declared.types.Metadata.{Metadata}
use Rattle.ignore_files.specs.declared.types.Listed.{Listed}
use Rattle.ignore_files.specs.declared.types.Listed.TheVariants as listed

-- a plain name: ASCII, without a slash, and not empty, `.` or `..`
abbrev pub is_plain : Bytes → Bool
is_plain name = is_proper name && not (has_slash name) && list_all is_ascii name

-- a listed thing is an entry with another name, ASCII case not regarded. A fault may stand for any
-- name
abbrev pub differs : Bytes → Listed → Bool
differs name (listed.Entry other kind) = not (bytes_eq (map to_ascii_lowercase other) (map to_ascii_lowercase name))
differs name (listed.Fault fault) = false

-- a listing lacks a name: the name is plain, and each listed thing is an entry with another one. That
-- of `a` and `.GIT` lacks `.jj` and `b`, and not `A`, `.git` or `é`
abbrev pub lacks : List Listed → Bytes → Bool
lacks listing name = is_plain name && list_all (differs name) listing

-- nothing is at a path, nor below it
pub record IsAbsent (is_there : Path → Bool) (path : Path) : Type 0 where
  pub here : is_there path ≡ false
  pub below : (rest : Path) → is_absolute rest ≡ false → is_there (join_of path rest) ≡ false

-- listings are whole: nothing is where a directory would have a name that its listing lacks
abbrev pub IsWhole : (Path → Bool) → (Path → Result (List Listed) Fault) → Type 0
IsWhole is_there list = (dir name : Path) (listing : List Listed)
    → list dir ≡ Ok listing → lacks listing name ≡ true → IsAbsent is_there (join_of dir name)

-- a followed `stat` answers for the path
abbrev pub is_found : Tree → Path → Bool
is_found tree path = is_ok (tree.stat path true)

-- each tree whose `stat` and `list` give these answers has whole listings
abbrev pub AreWhole : (Path → Bool → Result Metadata Refusal → Type 0) → (Path → Result (List Listed) Refusal → Type 0) → Type 0
AreWhole stat_gives list_gives =
    (tree : Tree)
    → ((path : Path) (follow : Bool) (r : Result Metadata Refusal) → stat_gives path follow r → Answers (tree.stat path follow) r)
    → ((path : Path) (r : Result (List Listed) Refusal) → list_gives path r → Answers (tree.list path) r)
    → IsWhole (is_found tree) tree.list
