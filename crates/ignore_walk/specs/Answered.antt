-- What calls for one entry return, whatever the files answer.
use Rattle.std.specs.Prelude.{◌≡◌, ℕ, codes, Option, None, Some, Result, Ok, Err}
use Rattle.ignore_base.specs.Problem.{Problem, at_path, io}
use Rattle.ignore_base.specs.declared.fault.Fault.{Fault}
use Rattle.ignore_base.specs.declared.fault.Fault.TheVariants.{NoMetadata}
use Rattle.ignore_files.specs.declared.files.Files.{Ghosts as Files}
use Rattle.ignore_files.specs.declared.types.FileType.{FileType}
use Rattle.ignore_files.specs.declared.types.Identity.{Identity}
use Rattle.ignore_files.specs.declared.types.Metadata.{Metadata}
use Rattle.ignore_files.specs.declared.types.Refusal.{Refusal}
use Rattle.ignore_files.specs.declared.types.Refusal.TheVariants.{Fault as Refused}
use Rattle.ignore_walk.specs.Entry.{Entry, known_inode, metadata_or_problem}

-- the answer, or fault, of a call of files, which isn't out of memory
abbrev pub as_answer : {A : Type 0} → Result A Fault → Result A Refusal
as_answer (Ok a) = Ok a
as_answer (Err fault) = Err (Refused fault)

-- this is the metadata of an entry of some kind, or the problem in its place: by an answer that the
-- files may give; standard input has none
abbrev pub IsMetadata : {F : Type 0} → Files F → F → Entry → Option FileType → Result Metadata Problem → Type 0
IsMetadata files f e None r = r ≡ Err (at_path (codes "<stdin>") (io NoMetadata))
IsMetadata files f e (Some kind) r =
    (answer : Result Metadata Fault) × files.stat_gives f e.path e.followed (as_answer answer) × (r ≡ metadata_or_problem e answer)

-- this is the inode of an entry of some kind, if it is known: by an answer that the files may give;
-- standard input has none
abbrev pub IsInode : {F : Type 0} → Files F → F → Entry → Option FileType → Option ℕ → Type 0
IsInode files f e None n = n ≡ None
IsInode files f e (Some kind) n =
    (answer : Result (Option Identity) Fault) × files.identity_gives f e.path e.followed (as_answer answer) × (n ≡ known_inode answer)
