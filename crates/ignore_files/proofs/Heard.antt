-- What is heard of a directory that is asked for once.
use Rattle.std.proofs.Common.{rules, ◌≡◌, refl, ap, sym, true, false, List, Option, Some, None, Result, Ok, Err, IsErrAnd, MatchResult, MatchOption}
use Rattle.std.specs.Prelude.{⊤}
use Rattle.std.specs.IoError.{error_kind, raw_os_error}
use Rattle.std.specs.declared.io.Error.{Error}
use Rattle.std.specs.declared.io.ErrorKind.TheVariants.{Interrupted}
use Rattle.ignore_base.specs.Text.{Path}
use Rattle.ignore_base.specs.declared.fault.Fault.TheVariants as fault
use Rattle.ignore_files.specs.Heard.{IsHeard, has_nul}
use Rattle.ignore_files.specs.Machine.{IsListingOf, Lists, MayList}
use Rattle.ignore_files.specs.Reported.{refusal_of, reported, reported_error}
use Rattle.ignore_files.specs.declared.machine.Machine.{Ghosts}
use Rattle.ignore_files.specs.declared.types.Listed.{Listed}
use Rattle.ignore_files.specs.declared.types.Refusal.{Refusal}
use Rattle.ignore_files.specs.declared.types.Refusal.TheVariants.{Memory}
use Rattle.ignore_files.specs.declared.types.Refusal.TheVariants.{Fault as Refused}

-- at a path with a NUL nothing is there
pub heard-nul : {T : Type 0} (path : Path) (gives : Result T Error → Type 0) → has_nul path ≡ true
    → IsHeard path gives (Err (Refused fault.NotFound))
heard-nul path gives nul = record { nul = λ _. refl; asked = λ clear. search rules }

-- else the answer is heard
pub heard-answer : {T : Type 0} (path : Path) (gives : Result T Error → Type 0) (answer : Result T Error)
    → has_nul path ≡ false → gives answer → IsHeard path gives (reported answer)
heard-answer path gives answer clear given = record { nul = λ nul. search rules; asked = λ _. (answer, given, refl) }

-- nothing is listed at a path with a NUL
pub listed-nul : {R M E D F : Type 0} (machine : Ghosts R M E D F) (next : D → Option (Result E Error) → D → Type 0)
    (r : R) (path : Path) → has_nul path ≡ true → MayList machine next r path (Err (Refused fault.NotFound))
listed-nul machine next r path nul =
    (Err (Refused fault.NotFound), heard-nul path (machine.read_dir_gives r path) nul, refl)

-- a directory is heard of, and what it lists is reported
pub listed-opened : {R M E D F : Type 0} (machine : Ghosts R M E D F) (next : D → Option (Result E Error) → D → Type 0)
    (r : R) (path : Path) (dir : D) (listing : Result (List Listed) Refusal) → has_nul path ≡ false
    → machine.read_dir_gives r path (Ok dir) → Lists machine next (Ok dir) listing → MayList machine next r path listing
listed-opened machine next r path dir listing clear given lists =
    (Ok dir, heard-answer path (machine.read_dir_gives r path) (Ok dir) clear given, lists)

-- an error is heard of, and reported
pub listed-refused : {R M E D F : Type 0} (machine : Ghosts R M E D F) (next : D → Option (Result E Error) → D → Type 0)
    (r : R) (path : Path) (error : Error) (refusal : Refusal) → has_nul path ≡ false
    → machine.read_dir_gives r path (Err error) → refusal ≡ reported_error error → MayList machine next r path (Err refusal)
listed-refused machine next r path error refusal clear given is =
    (Err (reported_error error), heard-answer path (machine.read_dir_gives r path) (Err error) clear given, is)

-- an interrupted answer is reported as out of memory, if at all
pub listed-interrupted : {R M E D F : Type 0} (machine : Ghosts R M E D F) (next : D → Option (Result E Error) → D → Type 0)
    (r : R) (path : Path) (answer : Result D Error) → has_nul path ≡ false
    → machine.read_dir_gives r path answer → IsErrAnd answer (λ error. error_kind error ≡ Interrupted)
    → MayList machine next r path (Err Memory)
listed-interrupted machine next r path (Ok dir) clear given bad = absurd bad
listed-interrupted machine next r path (Err error) clear given bad = (
  Err (reported_error error),
  heard-answer path (machine.read_dir_gives r path) (Err error) clear given,
  sym (ap (λ k. refusal_of (raw_os_error error) k) bad),
)

-- what becomes of an opened directory
pub listed-found : {R M E D F : Type 0} (machine : Ghosts R M E D F) (next : D → Option (Result E Error) → D → Type 0)
    (r : R) (path : Path) (dir : D) (result : Result (Option (List Listed)) Refusal) → has_nul path ≡ false
    → machine.read_dir_gives r path (Ok dir)
    → MatchResult result (λ found. MatchOption found ⊤ (λ listing. IsListingOf machine next dir listing)) (λ e. e ≡ Memory)
    → MatchResult result
    (λ found. MatchOption found (MayList machine next r path (Err Memory)) (λ listing. MayList machine next r path (Ok listing)))
    (λ e. MayList machine next r path (Err e))
listed-found machine next r path dir (Ok None) clear given lists = listed-opened machine next r path dir (Err Memory) clear given refl
listed-found machine next r path dir (Ok (Some listing)) clear given lists =
    listed-opened machine next r path dir (Ok listing) clear given lists
listed-found machine next r path dir (Err refusal) clear given lists =
    listed-opened machine next r path dir (Err refusal) clear given lists
