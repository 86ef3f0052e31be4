-- What is heard of a system that gives certain answers.
use Rattle.std.specs.Prelude.{◌≡◌, Bool, true, false, List, [], ◌∷◌, ◌==◌, ◌⊎◌, Option, Result, Ok, Err}
use Rattle.std.specs.List.{list_any}
use Rattle.std.specs.Iterator.{Drains}
use Rattle.std.specs.declared.io.Error.{Error}
use Rattle.std.specs.declared.fs.FileType.{FileType as MachineType}
use Rattle.ignore_base.specs.Text.{Bytes, Path}
use Rattle.ignore_base.specs.declared.fault.Fault.{Fault}
use Rattle.ignore_base.specs.declared.fault.Fault.TheVariants as fault
use Rattle.ignore_files.specs.Tree.{Answers}
use Rattle.ignore_files.specs.Reported.{reported, IsFaultOf, IsNotFound, IsEntryOf}
use Rattle.ignore_files.specs.Whole.{IsWhole}
use Rattle.ignore_files.specs.declared.types.Refusal.{Refusal}
use Rattle.ignore_files.specs.declared.types.Refusal.TheVariants.{Memory}
use Rattle.ignore_files.specs.declared.types.Refusal.TheVariants.{Fault as Refused}
use Rattle.ignore_files.specs.declared.types.Listed.{Listed}

-- a NUL stands in the path
abbrev pub has_nul : Path → Bool
has_nul path = list_any (λ b. b == 0) path

-- what is heard at a path: where it has a NUL nothing is there, and else the system is asked, its
-- error reported as a refusal
pub record IsHeard {T : Type 0} (path : Path) (gives : Result T Error → Type 0) (heard : Result T Refusal) : Type 0 where
  pub nul : has_nul path ≡ true → heard ≡ Err (Refused fault.NotFound)
  pub asked : has_nul path ≡ false → (answer : Result T Error) × gives answer × (heard ≡ reported answer)

-- a thing that a directory gives is reported, where an entry gives these names and types: an entry
-- by its name and kind, or by the fault in place of its kind; an error by its fault
abbrev pub IsReported : {E : Type 0} → (E → Bytes → Type 0) → (E → Result MachineType Error → Type 0) → Result E Error → Listed → Type 0
IsReported names types (Ok entry) item = (kind : Result MachineType Error) × types entry kind × IsEntryOf (names entry) kind item
IsReported names types (Err error) item = IsFaultOf error item

-- an entry is gone: it isn't found when its kind is asked
abbrev pub IsGone : {E : Type 0} → (E → Result MachineType Error → Type 0) → Result E Error → Type 0
IsGone types (Ok entry) = (error : Error) × types entry (Err error) × IsNotFound error
IsGone types (Err error) = ⊥

-- all things that a directory gives are reported, in their order, but for the entries that are gone
abbrev pub AreReported : {E : Type 0} → (E → Bytes → Type 0) → (E → Result MachineType Error → Type 0) → List (Result E Error) → List Listed
    → Type 0
AreReported names types [] [] = Unit {0}
AreReported names types [] (item ∷ items) = ⊥
AreReported names types (one ∷ more) [] = IsGone types one × AreReported names types more []
AreReported names types (one ∷ more) (item ∷ items) = (IsReported names types one item × AreReported names types more items)
    ⊎ (IsGone types one × AreReported names types more (item ∷ items))

-- an opened directory is listed whole, from its first entry to its end, unless memory runs out; one
-- that can't be opened is refused
abbrev pub Lists : {D E : Type 0} → (D → Option (Result E Error) → D → Type 0) → (List (Result E Error) → List Listed → Type 0)
    → Result D Refusal → Result (List Listed) Refusal → Type 0
Lists {D} {E} next Are (Ok dir) (Ok listing) = (all : List (Result E Error)) × Drains next dir all × Are all listing
Lists next Are (Ok dir) (Err refusal) = refusal ≡ Memory
Lists next Are (Err heard) (Ok listing) = ⊥
Lists next Are (Err heard) (Err refusal) = refusal ≡ heard

-- what may be heard of a directory
abbrev pub MayList : {D E : Type 0} → (Path → Result D Error → Type 0) → (D → Option (Result E Error) → D → Type 0)
    → (List (Result E Error) → List Listed → Type 0) → Path → Result (List Listed) Refusal → Type 0
MayList {D} {E} opens next Are path listing =
    (heard : Result D Refusal) × IsHeard path (opens path) heard × Lists next Are heard listing

-- a system with these answers has whole listings: on each disk that it may have, by where something
-- is and what each directory lists. Nothing is where a fault is heard
pub record HasWhole {M D E : Type 0} (metadata : Path → Result M Error → Type 0) (opens : Path → Result D Error → Type 0)
    (next : D → Option (Result E Error) → D → Type 0) (Are : List (Result E Error) → List Listed → Type 0) : Type 0 where
  pub whole : (is_there : Path → Bool) (list : Path → Result (List Listed) Fault)
      → ((path : Path) (fault : Fault) → IsHeard path (metadata path) (Err (Refused fault)) → is_there path ≡ false)
      → ((path : Path) (listing : Result (List Listed) Refusal) → MayList opens next Are path listing → Answers (list path) listing)
      → IsWhole is_there list
