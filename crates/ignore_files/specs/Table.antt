-- What a machine by a table of files answers, and the disk of its rows.
use Rattle.std.specs.Prelude.{◌≡◌, ℕ, Bool, cond, List, map, length, None, option_map, ok_or, unwrap_or, Result, Ok, Err}
use Rattle.std.specs.BTreeMap.{get_by_text}
use Rattle.std.specs.Vec.Iter.{into_iter_items}
use Rattle.std.specs.IoError.{error_kind}
use Rattle.std.specs.declared.io.Error.{Error}
use Rattle.std.specs.declared.io.ErrorKind.TheVariants.{OutOfMemory}
use Rattle.std.specs.declared.vec.IntoIter.{IntoIter}
use Rattle.ignore_base.specs.Text.{Bytes, Path}
use Rattle.ignore_base.specs.declared.fault.Fault.{Fault}
use Rattle.ignore_base.specs.declared.fault.Fault.TheVariants as fault
use Rattle.ignore_files.specs.Heard.{has_nul}
use Rattle.ignore_files.specs.Machine.{Disk}
use Rattle.ignore_files.specs.Memory.{and_then}
use Rattle.ignore_files.specs.Reported.{reported_error}
use Rattle.ignore_files.specs.declared.stat.Stat.{Stat}
use Rattle.ignore_files.specs.declared.table.Row.{Row}
use Rattle.ignore_files.specs.declared.table.Miss.{Miss}
use Rattle.ignore_files.specs.declared.table.Miss.TheVariants as miss
use Rattle.ignore_files.specs.declared.table.RowKind.{RowKind}
use Rattle.ignore_files.specs.declared.table.RowKind.TheVariants.{File, Dir, Link}
use Rattle.ignore_files.specs.declared.table.RowEntry.{RowEntry}
use Rattle.ignore_files.specs.declared.table.TableMachine.{TableMachine}
use Rattle.ignore_files.specs.declared.types.FileType.{FileType}
use Rattle.ignore_files.specs.declared.types.FileType.TheVariants as file_type
use Rattle.ignore_files.specs.declared.types.Refusal.TheVariants.{Fault as Refused}
use Rattle.ignore_files.specs.declared.types.Listed.{Listed}
use Rattle.ignore_files.specs.declared.types.Listed.TheVariants as listed
use Rattle.ignore_files.specs.declared.types.Contents.{Contents}

-- the row at a path
abbrev pub row_at : TableMachine → Path → Result Row Miss
row_at table path = ok_or (get_by_text table.rows path) miss.NotFound

-- where something at a path leads: a link to its target
abbrev pub target_of : Path → RowKind → Path
target_of path (File bytes) = path
target_of path (Dir entries) = path
target_of path (Link target) = target

-- where a path leads, a link followed
abbrev pub end_of : TableMachine → Path → Path
end_of table path = unwrap_or (option_map (λ row. target_of path row.kind) (get_by_text table.rows path)) path

-- a row, unless it is a link too many
abbrev pub unlinked : Row → RowKind → Result Row Miss
unlinked row (File bytes) = Ok row
unlinked row (Dir entries) = Ok row
unlinked row (Link target) = Err miss.LinkLimit

-- the row to which a path leads, one link followed
abbrev pub followed : TableMachine → Path → Result Row Miss
followed table path = and_then (λ row. unlinked row row.kind) (row_at table (end_of table path))

-- the row that is asked about, a link in last place followed or not
abbrev pub asked : TableMachine → Path → Bool → Result Row Miss
asked table path follow = cond follow (followed table path) (row_at table path)

-- the kind of a row
abbrev pub file_type_of : RowKind → FileType
file_type_of (File bytes) = file_type.File
file_type_of (Dir entries) = file_type.Dir
file_type_of (Link target) = file_type.Symlink

-- its size: that of a file's bytes, or of a link's target
abbrev pub len_of : RowKind → ℕ
len_of (File bytes) = length bytes
len_of (Dir entries) = 0
len_of (Link target) = length target

-- what is said of a row
abbrev pub stat_of : Row → Stat
stat_of row = record { metadata = record { file_type = file_type_of row.kind; len = len_of row.kind }; identity = row.identity }

-- the entries of a directory
abbrev pub entries_of : RowKind → Result (List RowEntry) Miss
entries_of (File bytes) = Err miss.NotADirectory
entries_of (Dir entries) = Ok entries.items
entries_of (Link target) = Err miss.NotADirectory

-- the bytes of a file: what isn't one can't be opened
abbrev pub bytes_of : RowKind → Result Bytes Miss
bytes_of (File bytes) = Ok bytes
bytes_of (Dir entries) = Err miss.IsADirectory
bytes_of (Link target) = Err miss.IsADirectory

-- the entries of the directory to which a path leads
abbrev pub entries_at : TableMachine → Path → Result (List RowEntry) Miss
entries_at table path = and_then (λ row. entries_of row.kind) (followed table path)

-- the bytes of the file to which a path leads
abbrev pub bytes_at : TableMachine → Path → Result Bytes Miss
bytes_at table path = and_then (λ row. bytes_of row.kind) (followed table path)

-- the kind that is told of an entry: std's types that can be made are those of files, directories
-- and links, and any other is told as a file
abbrev pub told : FileType → FileType
told file_type.File = file_type.File
told file_type.Dir = file_type.Dir
told file_type.Symlink = file_type.Symlink
told file_type.Other = file_type.File

-- what a directory gives for an entry
abbrev pub given : RowEntry → Result RowEntry Error
given entry = Ok entry

-- an opened directory gives these entries
abbrev pub GivesEntries : {A : Type 0} → List RowEntry → IntoIter (Result RowEntry Error) A → Type 0
GivesEntries entries dir = into_iter_items dir ≡ map given entries

-- as what fault it is reported that something isn't found
abbrev pub fault_of : Miss → Fault
fault_of miss.NotFound = fault.NotFound
fault_of miss.NotADirectory = fault.NotADirectory
fault_of miss.IsADirectory = fault.IsADirectory
fault_of miss.LinkLimit = fault.LinkLimit

-- an answer, where this is at a path: what is there, unless memory runs out; or an error that is
-- reported by the fault
abbrev pub Finds : {A T : Type 0} → (A → T → Type 0) → Result A Miss → Result T Error → Type 0
Finds Is (Ok a) (Ok x) = Is a x
Finds Is (Ok a) (Err error) = error_kind error ≡ OutOfMemory
Finds Is (Err m) (Ok x) = ⊥
Finds Is (Err m) (Err error) = reported_error error ≡ Refused (fault_of m)

-- a file is read whole, or memory runs out
abbrev pub ReadsWhole : Bytes → Bytes → Result ℕ Error → Type 0
ReadsWhole file bytes (Ok count) = bytes ≡ file
ReadsWhole file bytes (Err error) = error_kind error ≡ OutOfMemory

-- the same with a fault where nothing is found
abbrev pub or_fault : {A : Type 0} → Result A Miss → Result A Fault
or_fault (Ok a) = Ok a
or_fault (Err m) = Err (fault_of m)

-- what can be found at a path: one with a NUL leads nowhere
abbrev pub visible : {A : Type 0} → Path → Result A Miss → Result A Fault
visible path at = cond (has_nul path) (Err fault.NotFound) (or_fault at)

-- as what an entry is listed
abbrev pub listed_of : RowEntry → Listed
listed_of entry = listed.Entry entry.name (told entry.file_type)

-- these bytes, to their end
abbrev pub contents_of : Bytes → Contents
contents_of bytes = record { bytes = bytes; fault = None }

-- the disk of the rows
abbrev pub disk_of : TableMachine → Disk
disk_of table = record {
  stat = λ path follow. and_then (λ row. Ok (stat_of row)) (visible path (asked table path follow));
  list = λ path. and_then (λ entries. Ok (map listed_of entries)) (visible path (entries_at table path));
  read = λ path. and_then (λ bytes. Ok (contents_of bytes)) (visible path (bytes_at table path));
  canonical = λ path. and_then (λ row. Ok (end_of table path)) (visible path (followed table path));
}
