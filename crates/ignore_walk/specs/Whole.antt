-- What a whole walk gives, root by root.
use Rattle.std.specs.Prelude.{◌≡◌, ℕ, suc, ◌+◌, Bool, true, false, ◌&&◌, ◌||◌, not, List, [], ◌∷◌, ◌++◌, map, filter, codes, None, Some}
use Rattle.std.specs.Prelude.{Result, Ok, Err, bytes_eq, if◌then◌else◌}
use Rattle.std.specs.List.{list_any}
use Rattle.std.specs.Option.{option_to_list}
use Rattle.ignore_base.specs.Text.{Path}
use Rattle.ignore_base.specs.Problem.{Problem}
use Rattle.ignore_files.specs.Kinds.{is_file, is_symlink}
use Rattle.ignore_files.specs.Memory.{and_then}
use Rattle.ignore_files.specs.declared.types.FileType.{FileType}
use Rattle.ignore_files.specs.declared.types.FileType.TheVariants.{Symlink}
use Rattle.ignore_files.specs.declared.types.Metadata.{Metadata}
use Rattle.ignore_dir.specs.Above.{paths_above, problems_of_loads}
use Rattle.ignore_dir.specs.Load.{joined_some}
use Rattle.ignore_dir.specs.Query.{is_dir_there}
use Rattle.ignore_walk.specs.Child.{or_failed, with_device}
use Rattle.ignore_walk.specs.Entry.{Entry, Item, stdin_entry}
use Rattle.ignore_walk.specs.Scene.{Scene}
use Rattle.ignore_walk.specs.Walked.{WalkedOne}

-- a root is a link that stays one: links aren't followed, and what it leads to isn't a regular file
abbrev pub stays_link : Scene → FileType → FileType → Bool
stays_link g own kind = is_symlink own && not (g.settings.follow_links || is_file kind)

-- the entry of a root, by its own kind and the kind of what it leads to
abbrev pub root_by : Scene → Path → FileType → FileType → Entry
root_by g root own kind =
    if stays_link g own kind
    then record { path = root; depth = 0; kind = Some Symlink; followed = false }
    else record { path = root; depth = 0; kind = Some kind; followed = is_symlink own }

-- the entry of a root with this metadata of its own, or a problem where `stat` of what it leads to
-- has a fault
abbrev pub root_of : Scene → Path → Metadata → Result Entry Problem
root_of g root own = or_failed root 0 (λ (m : Metadata). Ok (root_by g root own.file_type m.file_type)) (g.tree.stat root true)

-- a root is an entry, or a problem in its place: `stat` of it has a fault, or of what it leads to
-- (`root_of`), or its identity isn't known and has to be
unfoldable pub root_entry : Scene → Path → Result Entry Problem
root_entry g root =
    and_then (with_device g (is_dir_there (g.tree.stat root true))) (or_failed root 0 (root_of g root) (g.tree.stat root false))

-- the directories above a root that leads to a directory
abbrev pub above_root : Scene → Path → List Path
above_root g root = if is_dir_there (g.tree.stat root true) then paths_above g.tree g.settings root else []

-- of these paths those that aren't among the ones that were seen
abbrev pub unseen : List Path → List Path → List Path
unseen seen paths = filter (λ path. not (list_any (bytes_eq path) seen)) paths

-- what is reported before a root: the problems of the directories above it that are above no
-- earlier root, as one
abbrev pub reported_before : Scene → List Path → Path → List Item
reported_before g seen root = map Err (option_to_list (joined_some (problems_of_loads g.loads (unseen seen (above_root g root)))))

-- given the directories that are above earlier roots, and then the roots: the items that these
-- give, and the steps, one for each root, and those below it
pub data WalkedRoots (g : Scene) : List Path → List Path → List Item → ℕ → Type 0 where
  none : {seen : List Path} → WalkedRoots g seen [] [] 0
  stdin : {seen roots : List Path} {items : List Item} {n : ℕ} → WalkedRoots g seen roots items n
      → WalkedRoots g seen (codes "-" ∷ roots) (Ok (stdin_entry, None) ∷ items) (suc n)
  other : {seen roots : List Path} {root : Path} {own items : List Item} {m n : ℕ} → bytes_eq root (codes "-") ≡ false
      → WalkedOne g root [] (root_entry g root) own m → WalkedRoots g (seen ++ above_root g root) roots items n
      → WalkedRoots g seen (root ∷ roots) (reported_before g seen root ++ (own ++ items)) (suc (m + n))

-- a whole walk of these roots gives these items, in so many steps
abbrev pub Whole : Scene → List Path → List Item → ℕ → Type 0
Whole g roots items n = WalkedRoots g [] roots items n
