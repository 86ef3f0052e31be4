-- What one listed thing is, in a directory that was entered.
use Rattle.std.specs.Prelude.{ℕ, ◌+◌, Bool, true, false, ◌&&◌, not, ◌==◌, List, [], ◌∷◌, length, Option, None, Some, Result, Ok, Err}
use Rattle.std.specs.Prelude.{if◌then◌else◌}
use Rattle.ignore_base.specs.Text.{Path}
use Rattle.ignore_base.specs.declared.fault.Fault.{Fault}
use Rattle.ignore_base.specs.declared.fault.Fault.TheVariants.{BadName, NoIdentity}
use Rattle.ignore_base.specs.Paths.{has_slash, is_proper}
use Rattle.ignore_base.specs.Problem.{Problem, at_depth, io, loop}
use Rattle.ignore_files.specs.Kinds.{is_dir, is_symlink}
use Rattle.ignore_files.specs.Memory.{and_then}
use Rattle.ignore_files.specs.Tree.{Tree}
use Rattle.ignore_files.specs.declared.types.FileType.{FileType}
use Rattle.ignore_files.specs.declared.types.Identity.{Identity}
use Rattle.ignore_files.specs.declared.types.Listed.{Listed}
use Rattle.ignore_files.specs.declared.types.Listed.TheVariants as thing
use Rattle.ignore_files.specs.declared.types.Metadata.{Metadata}
use Rattle.ignore_walk.specs.Branch.{Branch, path_of, entered}
use Rattle.ignore_walk.specs.Entry.{Entry, failed_at}
use Rattle.ignore_walk.specs.Scene.{Scene}

-- the answer, or its fault in the place of the entry with this path and depth
abbrev pub or_failed : {A B : Type 0} → Path → ℕ → (A → Result B Problem) → Result A Fault → Result B Problem
or_failed path depth f (Ok a) = f a
or_failed path depth f (Err fault) = Err (failed_at path depth fault)

-- the kind is that of a directory
abbrev pub is_dir_kind : Option FileType → Bool
is_dir_kind None = false
is_dir_kind (Some kind) = is_dir kind

-- an identity that has to be known
abbrev pub known : Result (Option Identity) Fault → Result Identity Fault
known (Ok (Some id)) = Ok id
known (Ok None) = Err NoIdentity
known (Err fault) = Err fault

-- the identity of what a path leads to, links followed
abbrev pub identity_at : Tree → Path → Result Identity Fault
identity_at tree path = known (tree.identity path true)

-- two identities are equal
abbrev pub is_same : Identity → Identity → Bool
is_same a b = (a.device == b.device) && (a.inode == b.inode)

-- the first of these directories that has this identity, unless the identity of one before it can't
-- be known
abbrev pub same_among : Tree → Identity → List Path → Result (Option Path) Fault
same_among tree id [] = Ok None
same_among tree id (path ∷ paths) =
    and_then (λ other. if is_same id other then Ok (Some path) else same_among tree id paths) (identity_at tree path)

-- an entry, or the loop where it leads back to an ancestor
abbrev pub unlooped : Entry → Option Path → Result Entry Problem
unlooped e None = Ok e
unlooped e (Some ancestor) = Err (at_depth e.depth (loop ancestor e.path))

-- a followed link to a directory has to lead to another one than those that were entered
abbrev pub without_loop : Tree → List Path → Entry → Result Entry Problem
without_loop tree ancestors e =
    if e.followed && is_dir_kind e.kind
    then or_failed e.path e.depth (unlooped e) (and_then (λ id. same_among tree id ancestors) (identity_at tree e.path))
    else Ok e

-- an entry, or the error in its place, if there is one
abbrev pub unless : Entry → Option Problem → Result Entry Problem
unless e None = Ok e
unless e (Some problem) = Err problem

-- where the walk stays on one device, the identity of a directory has to be known
abbrev pub with_device : Scene → Bool → Entry → Result Entry Problem
with_device g is_dir e =
    if g.same_file_system && is_dir then or_failed e.path e.depth (λ id. Ok e) (identity_at g.tree e.path) else Ok e

-- a link that was followed, by what it leads to
abbrev pub followed_link : Path → ℕ → Metadata → Result Entry Problem
followed_link path depth m = Ok (record { path = path; depth = depth; kind = Some m.file_type; followed = true })

-- what is at a path where an entry of this kind was listed: a link is followed where that is set
abbrev pub found : Scene → Path → ℕ → FileType → Result Entry Problem
found g path depth kind =
    if g.settings.follow_links && is_symlink kind
    then or_failed path depth (followed_link path depth) (g.tree.stat path true)
    else Ok (record { path = path; depth = depth; kind = Some kind; followed = false })

-- a listed thing, or a fault in its place where its name is empty, `.` or `..`, or has a slash
abbrev pub named : Listed → Listed
named (thing.Entry name kind) = if is_proper name && not (has_slash name) then thing.Entry name kind else thing.Fault BadName
named (thing.Fault fault) = thing.Fault fault

-- where a listed thing is
abbrev pub branch_below : Branch → Listed → Branch
branch_below b (thing.Entry name kind) = name ∷ b
branch_below b (thing.Fault fault) = b

-- a listed thing is an entry, or a problem in its place: it is found, then looked at for a loop,
-- and then for its device
unfoldable pub child : Scene → Path → Branch → Listed → Result Entry Problem
child g root b (thing.Entry name kind) =
    and_then (λ (e : Entry). with_device g (is_dir_kind e.kind) e)
    (and_then (without_loop g.tree (entered root b)) (found g (path_of root (name ∷ b)) (length b + 1) kind))
child g root b (thing.Fault fault) = Err (at_depth (length b + 1) (io fault))
