-- What calls for one entry return, by the answer of the files.
use Rattle.std.proofs.Common.{◌≡◌, ℕ, true, false, codes, is_some, List, Option, None, Some, Result, Ok, Err, MatchResult, refl, subst}
use Rattle.ignore_base.specs.Problem.{Problem, at_path, io}
use Rattle.ignore_base.specs.declared.fault.Fault.{Fault}
use Rattle.ignore_base.specs.declared.fault.Fault.TheVariants.{NoMetadata}
use Rattle.ignore_files.specs.declared.files.Files.{Ghosts as Files}
use Rattle.ignore_files.specs.declared.types.FileType.{FileType}
use Rattle.ignore_files.specs.declared.types.Identity.{Identity}
use Rattle.ignore_files.specs.declared.types.Metadata.{Metadata}
use Rattle.ignore_files.specs.declared.types.Refusal.{Refusal}
use Rattle.ignore_files.specs.declared.types.Refusal.TheVariants.{Fault as Refused}
use Rattle.ignore_walk.specs.Answered.{IsInode, IsMetadata, as_answer}
use Rattle.ignore_walk.specs.Entry.{Entry, known_inode, metadata_or_problem}

-- an answer that isn't out of memory
pub is_answer : {A : Type 0} (given : Result A Refusal) (found : Result A Fault)
    → MatchResult found (λ value. given ≡ Ok value) (λ fault. given ≡ Err (Refused fault)) → given ≡ as_answer found
is_answer given (Ok a) h = h
is_answer given (Err fault) h = h

-- the metadata of an entry that isn't standard input
pub metadata_by_answer : {F : Type 0} (files : Files F) (f : F) (e : Entry) (kind : Option FileType) (path : List ℕ)
    (given : Result Metadata Refusal) (found : Result Metadata Fault) → is_some kind ≡ true → path ≡ e.path
    → files.stat_gives f path e.followed given → given ≡ as_answer found → IsMetadata files f e kind (metadata_or_problem e found)
metadata_by_answer files f e None path given found some at answers is = absurd (cc (some))
metadata_by_answer files f e (Some kind) path given found some at answers is = (
  found,
  subst (λ (r : Result Metadata Refusal). files.stat_gives f e.path e.followed r) is
      (subst (λ (p : List ℕ). files.stat_gives f p e.followed given) at answers),
  refl,
)

-- that of standard input
pub no_metadata : {F : Type 0} (files : Files F) (f : F) (e : Entry) (kind : Option FileType) (p : Problem) → is_some kind ≡ false
    → p ≡ at_path (codes "<stdin>") (io NoMetadata) → IsMetadata files f e kind (Err p)
no_metadata files f e None p none is = cc (is)
no_metadata files f e (Some kind) p none is = absurd (cc (none))

-- the inode of an entry that isn't standard input
pub inode_by_answer : {F : Type 0} (files : Files F) (f : F) (e : Entry) (kind : Option FileType) (path : List ℕ)
    (given : Result (Option Identity) Refusal) (found : Result (Option Identity) Fault) → is_some kind ≡ true → path ≡ e.path
    → files.identity_gives f path e.followed given → given ≡ as_answer found → IsInode files f e kind (known_inode found)
inode_by_answer files f e None path given found some at answers is = absurd (cc (some))
inode_by_answer files f e (Some kind) path given found some at answers is = (
  found,
  subst (λ (r : Result (Option Identity) Refusal). files.identity_gives f e.path e.followed r) is
      (subst (λ (p : List ℕ). files.identity_gives f p e.followed given) at answers),
  refl,
)

pub no_inode : {F : Type 0} (files : Files F) (f : F) (e : Entry) (kind : Option FileType) → is_some kind ≡ false → IsInode files f e kind None
no_inode files f e None none = refl
no_inode files f e (Some kind) none = absurd (cc (none))
