-- What is heard of a system, and when all that it answers is what one disk holds.
use Rattle.std.specs.Prelude.{◌≡◌, ℕ, Bool, true, false, List, ◌⊎◌, Option, Result, Ok, Err}
use Rattle.std.specs.Iterator.{Drains}
use Rattle.std.specs.declared.io.Error.{Error}
use Rattle.std.specs.declared.fs.FileType.{FileType as MachineType}
use Rattle.ignore_base.specs.Text.{Bytes, Path}
use Rattle.ignore_base.specs.declared.fault.Fault.{Fault}
use Rattle.ignore_files.specs.Heard as heard
use Rattle.ignore_files.specs.Heard.{IsHeard}
use Rattle.ignore_files.specs.Tree.{Answers}
use Rattle.ignore_files.specs.Reported.{IsReportedAs, read_until}
use Rattle.ignore_files.specs.declared.machine.Machine.{Ghosts}
use Rattle.ignore_files.specs.declared.stat.Stat.{Stat}
use Rattle.ignore_files.specs.declared.types.Refusal.{Refusal}
use Rattle.ignore_files.specs.declared.types.Refusal.TheVariants.{Memory}
use Rattle.ignore_files.specs.declared.types.Listed.{Listed}
use Rattle.ignore_files.specs.declared.types.Contents.{Contents}

-- the answers about a path, a link in last place followed or not
abbrev pub metadata_gives : {R M E D F : Type 0} → Ghosts R M E D F → R → Bool → Path → Result M Error → Type 0
metadata_gives machine r true = machine.metadata_gives r
metadata_gives machine r false = machine.symlink_metadata_gives r

-- what is read off such an answer: its type as a kind, its size, and the numbers of device and
-- inode
pub record IsStatOf {R M E D F : Type 0} (machine : Ghosts R M E D F) (metadata : M) (stat : Stat) : Type 0 where
  pub file_type : (t : MachineType) × machine.file_type_gives metadata t × IsReportedAs t stat.metadata.file_type
  pub len : machine.len_gives metadata stat.metadata.len
  pub device : machine.dev_gives metadata stat.identity.device
  pub inode : machine.ino_gives metadata stat.identity.inode

-- the same of what was heard; a refusal stays
abbrev pub Reads : {R M E D F : Type 0} → Ghosts R M E D F → Result M Refusal → Result Stat Refusal → Type 0
Reads machine (Ok metadata) (Ok stat) = IsStatOf machine metadata stat
Reads machine (Ok metadata) (Err refusal) = ⊥
Reads machine (Err heard) (Ok stat) = ⊥
Reads machine (Err heard) (Err refusal) = refusal ≡ heard

-- what may be heard of a path
abbrev pub MayStat : {R M E D F : Type 0} → Ghosts R M E D F → R → Path → Bool → Result Stat Refusal → Type 0
MayStat {R} {M} {E} {D} {F} machine r path follow stat =
    (heard : Result M Refusal) × IsHeard path (metadata_gives machine r follow path) heard × Reads machine heard stat

-- a thing that a directory gives is reported: an entry by its name and kind, or by the fault in
-- place of its kind; an error by its fault
abbrev pub IsReported : {R M E D F : Type 0} → Ghosts R M E D F → Result E Error → Listed → Type 0
IsReported machine = heard.IsReported machine.file_name_gives machine.entry_type_gives

-- an entry is gone: it isn't found when its kind is asked
abbrev pub IsGone : {R M E D F : Type 0} → Ghosts R M E D F → Result E Error → Type 0
IsGone machine = heard.IsGone machine.entry_type_gives

-- all things that a directory gives are reported, in their order, but for the entries that are gone
abbrev pub AreReported : {R M E D F : Type 0} → Ghosts R M E D F → List (Result E Error) → List Listed → Type 0
AreReported machine = heard.AreReported machine.file_name_gives machine.entry_type_gives

-- the listing has all that an opened directory gives, from its first entry to its end, but for the
-- entries that are gone
abbrev pub IsListingOf : {R M E D F : Type 0} → Ghosts R M E D F → (D → Option (Result E Error) → D → Type 0) → D → List Listed → Type 0
IsListingOf {R} {M} {E} {D} {F} machine next dir listing =
    (all : List (Result E Error)) × Drains next dir all × AreReported machine all listing

-- an opened directory is listed whole, unless memory runs out; one that can't be opened is refused
abbrev pub Lists : {R M E D F : Type 0} → Ghosts R M E D F → (D → Option (Result E Error) → D → Type 0)
    → Result D Refusal → Result (List Listed) Refusal → Type 0
Lists machine next = heard.Lists next (AreReported machine)

-- what may be heard of a directory
abbrev pub MayList : {R M E D F : Type 0} → Ghosts R M E D F → (D → Option (Result E Error) → D → Type 0)
    → R → Path → Result (List Listed) Refusal → Type 0
MayList machine next r = heard.MayList (machine.read_dir_gives r) next (AreReported machine)

-- all that an opened file gives, or what came before the fault that ended the reading; or out of
-- memory
abbrev pub IsReadOf : {R M E D F : Type 0} → Ghosts R M E D F → F → Result Contents Refusal → Type 0
IsReadOf machine file contents = (contents ≡ Err Memory)
    ⊎ ((bytes : Bytes) × (end : Result ℕ Error) × machine.read_gives file bytes end × (contents ≡ read_until bytes end))

-- the same of what was heard when it was opened
abbrev pub Holds : {R M E D F : Type 0} → Ghosts R M E D F → Result F Refusal → Result Contents Refusal → Type 0
Holds machine (Ok file) contents = IsReadOf machine file contents
Holds machine (Err heard) contents = contents ≡ Err heard

-- what may be heard of a file's bytes
abbrev pub MayRead : {R M E D F : Type 0} → Ghosts R M E D F → R → Path → Result Contents Refusal → Type 0
MayRead {R} {M} {E} {D} {F} machine r path contents =
    (heard : Result F Refusal) × IsHeard path (machine.open_gives r path) heard × Holds machine heard contents

-- what may be heard of a canonical path
abbrev pub MayCanonicalize : {R M E D F : Type 0} → Ghosts R M E D F → R → Path → Result Path Refusal → Type 0
MayCanonicalize machine r path heard = IsHeard path (machine.canonicalize_gives r path) heard

-- a disk to which nobody writes: kind, size and numbers at each path, the listing of each
-- directory, the bytes of each file, and the canonical paths
pub record Disk : Type 0 where
  pub stat : Path → Bool → Result Stat Fault
  pub list : Path → Result (List Listed) Fault
  pub read : Path → Result Contents Fault
  pub canonical : Path → Result Path Fault

-- the system answers truly: all that may be heard of it, other than out of memory, is what the disk
-- holds
pub record IsTruthful {R M E D F : Type 0} (machine : Ghosts R M E D F)
    (next : D → Option (Result E Error) → D → Type 0) (r : R) (disk : Disk) : Type 0 where
  pub stat : (path : Path) (follow : Bool) (heard : Result Stat Refusal)
      → MayStat machine r path follow heard → Answers (disk.stat path follow) heard
  pub list : (path : Path) (heard : Result (List Listed) Refusal) → MayList machine next r path heard → Answers (disk.list path) heard
  pub read : (path : Path) (heard : Result Contents Refusal) → MayRead machine r path heard → Answers (disk.read path) heard
  pub canonical : (path : Path) (heard : Result Path Refusal)
      → MayCanonicalize machine r path heard → Answers (disk.canonical path) heard
