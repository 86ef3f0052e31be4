-- What a walk yields, by the queries of its roots.
use Rattle.std.specs.Prelude.{◌≡◌, Bool, true, false, not, ◌&&◌, List, [], ◌∷◌, length, reverse, codes, bytes_eq, Contains, Ok}
use Rattle.ignore_base.specs.Text.{Bytes, Path}
use Rattle.ignore_base.specs.Paths.{joined}
use Rattle.ignore_files.specs.declared.types.FileType.{FileType}
use Rattle.ignore_files.specs.declared.types.Listed.TheVariants as thing
use Rattle.ignore_dir.specs.Limits.{is_below}
use Rattle.ignore_dir.specs.Query.{query}
use Rattle.ignore_dir.specs.Verdict.{is_ignore}
use Rattle.ignore_dir.specs.declared.incremental.IncrementalMatch.{IncrementalMatch}
use Rattle.ignore_walk.specs.Branch.{Branch}
use Rattle.ignore_walk.specs.Child.{child, is_dir_kind}
use Rattle.ignore_walk.specs.Entry.{Entry}
use Rattle.ignore_walk.specs.Scene.{Scene, queries}
use Rattle.ignore_walk.specs.Walked.{leads_in, listing_of}
use Rattle.ignore_walk.specs.Whole.{root_entry}

-- listings lead from a root to an entry at a place: to the root itself, and to each listed entry of
-- a directory that they lead to, where no problem stands in its place. No rule is asked
pub data Reachable (g : Scene) (root : Path) : Branch → Entry → Type 0 where
  at_root : {e : Entry} → root_entry g root ≡ Ok e → Reachable g root [] e
  listed : {b : Branch} {dir e : Entry} {name : Bytes} {kind : FileType} → Reachable g root b dir → leads_in g b dir ≡ true
      → Contains (listing_of (g.tree.list dir.path)) (thing.Entry name kind) → child g root b (thing.Entry name kind) ≡ Ok e
      → Reachable g root (name ∷ b) e

-- a place is at the greatest depth or above it
abbrev pub is_within : Scene → Branch → Bool
is_within g b = not (is_below g.settings.max_depth (length b))

-- an answer keeps a path: it doesn't ignore it, and the path is within the limits on depth
abbrev pub keeps : IncrementalMatch → Bool
keeps answer = not (is_ignore answer.verdict) && answer.is_within

-- the query of a root keeps an entry: it is asked for the names to its place, joined, and its kind
unfoldable pub is_kept : Scene → Path → Branch → Entry → Bool
is_kept g root b e = keeps (query (queries g root) (joined (reverse b)) (is_dir_kind e.kind)).0

-- nothing but rules and limits leaves an entry out: the filter keeps all, and no device is closed
pub record IsOpen (g : Scene) : Type 0 where
  pub keeps_all : (e : Entry) → g.keep e ≡ true
  pub all_devices : g.same_file_system ≡ false

-- an entry is reachable below one of the roots, within the greatest depth, and the query of this
-- root keeps it
pub record IsKeptBelow (g : Scene) (roots : List Path) (e : Entry) : Type 0 where
  pub root : Path
  pub place : Branch
  pub given : Contains roots root
  pub no_stdin : bytes_eq root (codes "-") ≡ false
  pub reachable : Reachable g root place e
  pub within : is_within g place ≡ true
  pub kept : is_kept g root place e ≡ true
