-- What the machine's files answer, and the tree that a disk is.
use Rattle.std.specs.Prelude.{◌≡◌, Bool, true, Option, Some, Result, Ok, Err}
use Rattle.std.specs.declared.io.Error.{Error}
use Rattle.ignore_base.specs.Text.{Path}
use Rattle.ignore_base.specs.declared.fault.Fault.{Fault}
use Rattle.ignore_base.specs.declared.fault.Fault.TheVariants as fault
use Rattle.ignore_files.specs.Tree.{Tree}
use Rattle.ignore_files.specs.Memory.{and_then}
use Rattle.ignore_files.specs.Machine.{Disk, MayStat, MayList, MayRead, MayCanonicalize}
use Rattle.ignore_files.specs.declared.machine.Machine.{Ghosts}
use Rattle.ignore_files.specs.declared.disk.DiskFiles.{DiskFiles}
use Rattle.ignore_files.specs.declared.files.Files.{Ghosts as FilesGhosts}
use Rattle.ignore_files.specs.declared.stat.Stat.{Stat}
use Rattle.ignore_files.specs.declared.types.Refusal.{Refusal}
use Rattle.ignore_files.specs.declared.types.Refusal.TheVariants.{Fault as Refused}
use Rattle.ignore_files.specs.declared.types.FileType.{FileType}
use Rattle.ignore_files.specs.declared.types.FileType.TheVariants.{File, Dir, Symlink, Other}
use Rattle.ignore_files.specs.declared.types.Metadata.{Metadata}
use Rattle.ignore_files.specs.declared.types.Identity.{Identity}
use Rattle.ignore_files.specs.declared.types.Contents.{Contents}

-- the system whose files they are
abbrev pub machine_of : {R : Type 0} → DiskFiles R → R
machine_of files = files.rt.now

-- kind and size of what was heard of a path
abbrev pub metadata_of : Stat → Result Metadata Refusal
metadata_of stat = Ok stat.metadata

-- the numbers of what was heard of a path
abbrev pub identity_of : Stat → Result (Option Identity) Refusal
identity_of stat = Ok (Some stat.identity)

-- what `stat` answers
abbrev pub GivesStat : {R M E D F : Type 0} → Ghosts R M E D F → R → Path → Bool → Result Metadata Refusal → Type 0
GivesStat machine r path follow answer =
    (heard : Result Stat Refusal) × MayStat machine r path follow heard × (answer ≡ and_then metadata_of heard)

-- what `identity` answers
abbrev pub GivesIdentity : {R M E D F : Type 0} → Ghosts R M E D F → R → Path → Bool → Result (Option Identity) Refusal → Type 0
GivesIdentity machine r path follow answer =
    (heard : Result Stat Refusal) × MayStat machine r path follow heard × (answer ≡ and_then identity_of heard)

-- a file or a directory is opened and read, and anything else is `Other` unopened
abbrev pub GivesOf : FileType → (Result Contents Refusal → Type 0) → Result Contents Refusal → Type 0
GivesOf File May answer = May answer
GivesOf Dir May answer = May answer
GivesOf Symlink May answer = answer ≡ Err (Refused fault.Other)
GivesOf Other May answer = answer ≡ Err (Refused fault.Other)

-- the same by what was heard of the path
abbrev pub GivesAt : Result Stat Refusal → (Result Contents Refusal → Type 0) → Result Contents Refusal → Type 0
GivesAt (Ok stat) May answer = GivesOf stat.metadata.file_type May answer
GivesAt (Err refusal) May answer = answer ≡ Err refusal

-- what `contents` answers
abbrev pub GivesContents : {R M E D F : Type 0} → Ghosts R M E D F → R → Path → Result Contents Refusal → Type 0
GivesContents machine r path answer =
    (heard : Result Stat Refusal) × MayStat machine r path true heard × GivesAt heard (MayRead machine r path) answer

-- the answers of the files of a machine, as `DiskFiles` states them
abbrev pub files_on : {R M E D F : Type 0} → Ghosts R M E D F → (D → Option (Result E Error) → D → Type 0)
    → FilesGhosts (DiskFiles R)
files_on machine next = record {
  stat_gives = λ files path follow answer. GivesStat machine (machine_of files) path follow answer;
  list_gives = λ files path answer. MayList machine next (machine_of files) path answer;
  contents_gives = λ files path answer. GivesContents machine (machine_of files) path answer;
  canonical_gives = λ files path answer. MayCanonicalize machine (machine_of files) path answer;
  identity_gives = λ files path follow answer. GivesIdentity machine (machine_of files) path follow answer;
}

-- the contents at a path of this kind, where reading gives these
abbrev pub contents_at : FileType → Result Contents Fault → Result Contents Fault
contents_at File contents = contents
contents_at Dir contents = contents
contents_at Symlink contents = Err fault.Other
contents_at Other contents = Err fault.Other

-- the tree that a disk is
abbrev pub tree_on : Disk → Tree
tree_on disk = record {
  stat = λ path follow. and_then (λ stat. Ok stat.metadata) (disk.stat path follow);
  list = disk.list;
  contents = λ path. and_then (λ stat. contents_at stat.metadata.file_type (disk.read path)) (disk.stat path true);
  canonical = disk.canonical;
  identity = λ path follow. and_then (λ stat. Ok (Some stat.identity)) (disk.stat path follow);
}
