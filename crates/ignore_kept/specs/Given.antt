-- What a host of a guide gives, by the numbers of C.
use Rattle.std.specs.Prelude.{◌≡◌, ◌≢◌, ◌⊎◌, ℕ, [], ◌∷◌, Option, Some, None, Result, Ok, Err}
use Rattle.std.specs.Str.{IsUtf8}
use Rattle.ignore_base.specs.Text.{Bytes, Path}
use Rattle.ignore_base.specs.declared.fault.Fault.{Fault}
use Rattle.ignore_base.specs.declared.fault.Fault.TheVariants.{NotFound, PermissionDenied, NotADirectory, IsADirectory, InvalidData, BadName}
use Rattle.ignore_base.specs.declared.fault.Fault.TheVariants.{LinkLimit, NoIdentity, NoCurrentDir, StepLimit, NoMetadata, Other}
use Rattle.ignore_files.specs.declared.types.Contents.{Contents}
use Rattle.ignore_files.specs.declared.types.FileType.{FileType}
use Rattle.ignore_files.specs.declared.types.FileType.TheVariants.{Symlink}
use Rattle.ignore_guide.specs.Hosted.{path_answer, read_answer}
use Rattle.ignore_guide.specs.declared.hosted.Given.{Given}
use Rattle.ignore_guide.specs.declared.missing.Wanted.{Wanted}
use Rattle.ignore_guide.specs.declared.missing.Wanted.TheVariants as wanted
use Rattle.ignore_kept.specs.Walking.{kind_code}
use Rattle.ignore_kept.specs.declared.stopped.Stopped.{Stopped}
use Rattle.ignore_kept.specs.declared.stopped.Stopped.TheVariants.{NotUtf8, Memory as Full, Limit, Invalid, Misused, Tree}

-- how faults are numbered
abbrev pub fault_code : Fault → ℕ
fault_code NotFound = 0
fault_code PermissionDenied = 1
fault_code NotADirectory = 2
fault_code IsADirectory = 3
fault_code InvalidData = 4
fault_code BadName = 5
fault_code LinkLimit = 6
fault_code NoIdentity = 7
fault_code NoCurrentDir = 8
fault_code StepLimit = 9
fault_code NoMetadata = 10
fault_code Other = 11

-- the same, and none
abbrev pub fault_number : Option Fault → ℕ
fault_number None = 255
fault_number (Some fault) = fault_code fault

-- what can be read of a file, by its bytes and a fault: where there are no bytes it wasn't opened
abbrev pub read_given : Bytes → Option Fault → Result Contents Fault
read_given bytes None = Ok (record { bytes = bytes; fault = None })
read_given [] (Some fault) = Err fault
read_given (byte ∷ bytes) (Some fault) = Ok (record { bytes = byte ∷ bytes; fault = Some fault })

-- the canonical path
abbrev pub path_given : Bytes → Option Fault → Result Path Fault
path_given bytes None = Ok bytes
path_given bytes (Some fault) = Err fault

-- a host gives this by the number of a kind, bytes and the number of a fault, where this is wanted
pub record IsGiven (asked : Wanted) (kind : ℕ) (bytes : Bytes) (fault : ℕ) (g : Given) : Type 0 where
  pub why : Option Fault
  pub numbered : fault_number why ≡ fault
  pub is_kind : kind_code g.kind ≡ kind
  pub no_link : g.kind ≢ Some Symlink
  pub read : read_answer g.bytes g.fault ≡ read_given bytes why
  pub path : asked ≡ wanted.Canonical → path_answer g.path ≡ path_given bytes why

-- no kind but that of a link has this number
abbrev pub IsNoKind : ℕ → Type 0
IsNoKind number = (kind : Option FileType) → kind_code kind ≡ number → kind ≡ Some Symlink

-- no fault has this number
abbrev pub IsNoFault : ℕ → Type 0
IsNoFault number = (fault : Option Fault) → fault_number fault ≢ number

-- a number is that of this kind, which is no link, or of none
abbrev pub IsKindAt : ℕ → Option (Option FileType) → Type 0
IsKindAt number None = IsNoKind number
IsKindAt number (Some kind) = (kind_code kind ≡ number) × (kind ≢ Some Symlink)

-- a number is that of this fault, or that there is none; or neither
abbrev pub IsFaultAt : ℕ → Option (Option Fault) → Type 0
IsFaultAt number None = IsNoFault number
IsFaultAt number (Some fault) = fault_number fault ≡ number

-- why nothing is given: a number is that of no kind, or of no fault; or the canonical path isn't UTF-8
abbrev pub NotGiven : Wanted → ℕ → Bytes → ℕ → Stopped → Type 0
NotGiven asked kind bytes fault NotUtf8 = (asked ≡ wanted.Canonical) × ¬ (IsUtf8 bytes)
NotGiven asked kind bytes fault Misused = (IsNoKind kind) ⊎ (IsNoFault fault)
NotGiven asked kind bytes fault other = ⊥
