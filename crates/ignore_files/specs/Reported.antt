-- As what an answer of a system is reported.
use Rattle.std.specs.Prelude.{◌≡◌, ℕ, ℤ, Option, Some, None, Result, Ok, Err}
use Rattle.std.specs.declared.io.Error.{Error}
use Rattle.std.specs.declared.io.ErrorKind.{ErrorKind}
use Rattle.std.specs.declared.io.ErrorKind.TheVariants.{NotFound, PermissionDenied, NotADirectory, IsADirectory, InvalidData}
use Rattle.std.specs.declared.io.ErrorKind.TheVariants.{InvalidFilename, FilesystemLoop, OutOfMemory, Interrupted}
use Rattle.std.specs.IoError.{error_kind, raw_os_error}
use Rattle.std.specs.Fs.{IsDir, IsFile, IsSymlink}
use Rattle.std.specs.declared.fs.FileType.{FileType as MachineType}
use Rattle.ignore_base.specs.Text.{Bytes}
use Rattle.ignore_base.specs.declared.fault.Fault.{Fault}
use Rattle.ignore_base.specs.declared.fault.Fault.TheVariants as fault
use Rattle.ignore_files.specs.declared.types.Refusal.{Refusal}
use Rattle.ignore_files.specs.declared.types.Refusal.TheVariants.{Memory}
use Rattle.ignore_files.specs.declared.types.Refusal.TheVariants.{Fault as Refused}
use Rattle.ignore_files.specs.declared.types.FileType.{FileType}
use Rattle.ignore_files.specs.declared.types.FileType.TheVariants.{File, Dir, Symlink, Other}
use Rattle.ignore_files.specs.declared.types.Listed.{Listed}
use Rattle.ignore_files.specs.declared.types.Listed.TheVariants as listed
use Rattle.ignore_files.specs.declared.types.Contents.{Contents}

-- a name that can't be read: one that isn't UTF-8 has no number of the system's, and one that the
-- system finds too long has one
abbrev pub name_fault : Option ℤ → Fault
name_fault None = fault.BadName
name_fault (Some code) = fault.Other

-- five kinds keep their name, a loop of links is too many of them, every other kind is `Other`
-- (out of memory, or interrupted as often as one can ask, is no answer at all)
abbrev pub refusal_of : Option ℤ → ErrorKind → Refusal
refusal_of code NotFound = Refused fault.NotFound
refusal_of code PermissionDenied = Refused fault.PermissionDenied
refusal_of code NotADirectory = Refused fault.NotADirectory
refusal_of code IsADirectory = Refused fault.IsADirectory
refusal_of code InvalidData = Refused fault.InvalidData
refusal_of code InvalidFilename = Refused (name_fault code)
refusal_of code FilesystemLoop = Refused fault.LinkLimit
refusal_of code OutOfMemory = Memory
refusal_of code Interrupted = Memory
refusal_of code _ = Refused fault.Other

-- the refusal as which an error is reported
abbrev pub reported_error : Error → Refusal
reported_error error = refusal_of (raw_os_error error) (error_kind error)

-- an answer, its error reported as a refusal
abbrev pub reported : {T : Type 0} → Result T Error → Result T Refusal
reported (Ok x) = Ok x
reported (Err error) = Err (reported_error error)

-- the system's type of a file is reported as this kind
abbrev pub IsReportedAs : MachineType → FileType → Type 0
IsReportedAs t Dir = IsDir t
IsReportedAs t File = IsFile t
IsReportedAs t Symlink = IsSymlink t
IsReportedAs t Other = (IsDir t → ⊥) × (IsFile t → ⊥) × (IsSymlink t → ⊥)

-- an error is reported by its fault
abbrev pub IsFaultOf : Error → Listed → Type 0
IsFaultOf error (listed.Entry n kind) = ⊥
IsFaultOf error (listed.Fault f) = reported_error error ≡ Refused f

-- nothing was found
abbrev pub IsNotFound : Error → Type 0
IsNotFound error = error_kind error ≡ NotFound

-- an entry is reported under its name with its kind, or by the fault in place of its kind, which
-- isn't that nothing was found
abbrev pub IsEntryOf : (Bytes → Type 0) → Result MachineType Error → Listed → Type 0
IsEntryOf IsName (Ok t) (listed.Entry name kind) = IsName name × IsReportedAs t kind
IsEntryOf IsName (Ok t) (listed.Fault f) = ⊥
IsEntryOf IsName (Err error) item = (IsNotFound error → ⊥) × IsFaultOf error item

-- bytes that were read until this refusal ended the reading
abbrev pub cut_by : Bytes → Refusal → Result Contents Refusal
cut_by bytes (Refused fault) = Ok (record { bytes = bytes; fault = Some fault })
cut_by bytes Memory = Err Memory

-- bytes that were read to the end of a file, or to an error
abbrev pub read_until : Bytes → Result ℕ Error → Result Contents Refusal
read_until bytes (Ok count) = Ok (record { bytes = bytes; fault = None })
read_until bytes (Err error) = cut_by bytes (reported_error error)
