-- Worked folders that hold a repository and that don't, in a small tree; what a listed thing shows; and
-- problems of files of rules that are and aren't to be reported.
use Rattle.std.proofs.Common.{◌≡◌, true, false, [], ◌∷◌, codes, None, Some, Ok, Err, refl, if◌then◌else◌}
use Rattle.std.specs.Str.{bytes_eq}
use Rattle.ignore_base.specs.Paths.{join_of}
use Rattle.ignore_base.specs.Problem.{Problem}
use Rattle.ignore_base.specs.declared.fault.Fault.TheVariants.{BadName, PermissionDenied}
use Rattle.ignore_files.specs.Tree.{Tree}
use Rattle.ignore_files.specs.declared.types.FileType.TheVariants.{Dir as dir_kind, File as file_kind, Symlink as link_kind}
use Rattle.ignore_files.specs.declared.types.Listed.TheVariants as thing
use Rattle.ig_options.specs.declared.options.Options.{Options}
use Rattle.ig_commands.specs.Reports.{to_report}
use Rattle.ig_commands.specs.Repositories.{IsHeld, is_sign, most_folders}
use Rattle.ig_commands.proofs.RepositoryLemmas.{first_shows, none_show, others_show}

-- `.git` and `.jj` of each kind, and a thing without a name; nothing else
pub signs : (is_sign (thing.Entry (codes ".git") dir_kind) ≡ true) × (is_sign (thing.Entry (codes ".git") file_kind) ≡ true)
    × (is_sign (thing.Entry (codes ".jj") link_kind) ≡ true) × (is_sign (thing.Fault BadName) ≡ true)
    × (is_sign (thing.Entry (codes ".gitignore") file_kind) ≡ false)
signs = (refl, refl, refl, refl, refl)

-- the folder `a` has `a/x`, which has `.git`; `b` has a file and a link to `a`; `c` can't be listed
abbrev tree : Tree
tree = record {
  stat = λ path follow. Err PermissionDenied;
  list = λ path. if bytes_eq path (codes "a") then Ok (thing.Entry (codes "x") dir_kind ∷ [])
      else if bytes_eq path (codes "a/x") then Ok (thing.Entry (codes ".git") file_kind ∷ [])
      else if bytes_eq path (codes "b") then Ok (thing.Entry (codes "f") file_kind ∷ (thing.Entry (codes "l") link_kind ∷ []))
      else Err PermissionDenied;
  contents = λ path. Err PermissionDenied;
  canonical = λ path. Ok path;
  identity = λ path follow. Err PermissionDenied;
}

-- `a` holds a repository, at depth
pub held : IsHeld tree (codes "a") true
unfolding join_of
held = others_show tree (codes "a") [] 18446744073709551614 true refl (first_shows tree (codes "a/x") [] 18446744073709551614 refl)

-- `b` holds none
pub not_held : IsHeld tree (codes "b") false
not_held = others_show tree (codes "b") [] 18446744073709551614 false refl (none_show tree 18446744073709551614)

-- `c` may hold one
pub unknown : IsHeld tree (codes "c") true
unknown = first_shows tree (codes "c") [] most_folders refl

-- with `--no-ignore-messages` no problem of files of rules is to be reported
pub unreported : (o : Options) (p : Problem) → o.no_ignore_messages ≡ true → to_report o (Some p) ≡ None
unreported o p is = rw is refl

pub is_reported_else : (o : Options) (p : Problem) → o.no_ignore_messages ≡ false → to_report o (Some p) ≡ Some p
is_reported_else o p is = rw is refl
