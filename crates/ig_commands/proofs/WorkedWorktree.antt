-- A worked worktree, computed: a tree whose folders list `.git`, `.jj`, `.github` and a fault, and which
-- names are what repositories keep of their own; and which kinds a list has.
use Rattle.std.proofs.Common.{◌≡◌, true, false, List, [], ◌∷◌, codes, Some, None, Ok, Err, refl, if◌then◌else◌}
use Rattle.std.specs.Str.{bytes_eq}
use Rattle.ignore_base.specs.declared.fault.Fault.TheVariants.{BadName, NotFound}
use Rattle.ignore_files.specs.Tree.{Tree}
use Rattle.ignore_files.specs.declared.types.FileType.TheVariants.{Dir as dir_kind, File as file_kind, Symlink as link_kind, Other as other_kind}
use Rattle.ignore_files.specs.declared.types.Listed.{Listed}
use Rattle.ignore_files.specs.declared.types.Listed.TheVariants as thing
use Rattle.ig_options.specs.declared.options.Options.{Options}
use Rattle.ig_commands.specs.Worktree.{has_store, is_store, worktree}
use Rattle.ig_commands.specs.Writing.{is_listed, is_of_kind, is_positive}

-- a name is all of it, and in its own case
pub names : (is_store (codes ".git") ≡ true) × (is_store (codes ".jj") ≡ true) × (is_store (codes ".github") ≡ false)
    × (is_store (codes "git") ≡ false) × (is_store (codes ".GIT") ≡ false)
names = (refl, refl, refl, refl, refl)

-- a path goes by its components
pub paths : (has_store (codes ".git") ≡ true) × (has_store (codes "/w/.git/hooks") ≡ true) × (has_store (codes "a/.jj") ≡ true)
    × (has_store (codes "/w/.github/x") ≡ false) × (has_store (codes ".") ≡ false) × (has_store [] ≡ false)
paths = (refl, refl, refl, refl, refl, refl)

-- what each folder of the tree lists
abbrev listed : List Listed
listed =
    thing.Fault BadName ∷ (thing.Entry (codes ".git") dir_kind ∷ (thing.Entry (codes ".github") dir_kind
    ∷ (thing.Entry (codes ".jj") link_kind ∷ (thing.Entry (codes "a.o") file_kind ∷ (thing.Entry (codes ".git") file_kind ∷ [])))))

-- the tree: `l` leads into a `.git`, and nothing is at `no`
abbrev tree : Tree
tree = record {
  stat = λ path follow. Err NotFound;
  list = λ path. if bytes_eq path (codes "no") then Err NotFound else Ok listed;
  contents = λ path. Err NotFound;
  canonical = λ path. if bytes_eq path (codes "l") then Ok (codes "/w/.git/hooks") else Ok (codes "/w/s");
  identity = λ path follow. Err NotFound;
}

-- what is met of a folder
abbrev met : List Listed
met = thing.Fault BadName ∷ (thing.Entry (codes ".github") dir_kind ∷ (thing.Entry (codes "a.o") file_kind ∷ []))

-- roots that lie inside of `.git`, by their texts or by where they lead, list nothing; another root, and
-- what is no root, list what is met; a fault stays one
pub lists : ((worktree (codes ".git" ∷ []) tree).list (codes ".git") ≡ Ok []) × ((worktree (codes "l" ∷ []) tree).list (codes "l") ≡ Ok [])
    × ((worktree (codes "s" ∷ []) tree).list (codes "s") ≡ Ok met) × ((worktree [] tree).list (codes "l") ≡ Ok met)
    × ((worktree (codes "no" ∷ []) tree).list (codes "no") ≡ Err NotFound)
lists = (refl, refl, refl, refl, refl)

-- a glob lists what it matches, unless it begins with `!`
pub globs : (is_positive (codes "*.c") ≡ true) × (is_positive (codes "!*.c") ≡ false) × (is_positive [] ≡ true)
globs = (refl, refl, refl)

-- some options, by which no kind is chosen
module _ (o : Options) (files : o.files ≡ false) (dirs : o.dirs ≡ false) (links : o.links ≡ false) (rest : o.iglobs ≡ []) where
  -- without types and globs, and with a glob that lists nothing, each kind is listed
  pub all_kinds : o.types ≡ [] → o.globs ≡ codes "!a" ∷ [] → (is_listed o (Some dir_kind) ≡ true) × (is_listed o None ≡ true)
  all_kinds none globs = (rw (files, dirs, links, none, globs, rest) refl, rw (files, dirs, links, none, globs, rest) refl)

  -- with a type files alone are; what is ignored is of each kind
  pub files_alone : o.types ≡ codes "c" ∷ [] → (is_listed o (Some dir_kind) ≡ false) × (is_listed o (Some file_kind) ≡ true)
      × (is_listed o (Some link_kind) ≡ false) × (is_listed o (Some other_kind) ≡ false) × (is_of_kind o (Some dir_kind) ≡ true)
  files_alone types = (
    rw (files, dirs, links, types) refl,
    rw (files, dirs, links, types) refl,
    rw (files, dirs, links, types) refl,
    rw (files, dirs, links, types) refl,
    rw (files, dirs, links) refl,
  )
