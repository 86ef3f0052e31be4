-- How far a call of a guide has come whose host is asked.
use Rattle.std.specs.Prelude.{◌≡◌, ℕ, ◌+◌, false, true, List, Option, None, Some, Result, Ok, Err, option_map, if◌then◌else◌}
use Rattle.std.specs.Str.{bytes_eq}
use denote.Bor.{Bor}
use Rattle.ignore_base.specs.Paths.{join_of}
use Rattle.ignore_base.specs.Problem.{problem_of}
use Rattle.ignore_base.specs.Text.{Path}
use Rattle.ignore_base.specs.declared.fault.Fault.{Fault}
use Rattle.ignore_base.specs.declared.fault.Fault.TheVariants.{NotFound}
use Rattle.ignore_dir.specs.Lists.{Placed}
use Rattle.ignore_dir.specs.LoadsBy.{LoadsBy, reads_of, stats_of}
use Rattle.ignore_dir.specs.Steps.{Reached, entry}
use Rattle.ignore_dir.specs.declared.dir.Dir.{Dir}
use Rattle.ignore_files.specs.Tree.{Tree}
use Rattle.ignore_files.specs.declared.files.Files.{Ghosts as Files}
use Rattle.ignore_files.specs.declared.types.Contents.{Contents}
use Rattle.ignore_files.specs.declared.types.FileType.{FileType}
use Rattle.ignore_files.specs.declared.types.Metadata.{Metadata}
use Rattle.ignore_guide.specs.Answers.{answer_at}
use Rattle.ignore_guide.specs.Asking.{is_told}
use Rattle.ignore_guide.specs.Guide.{IsRootBy, StandsFor, holding, root_reached}
use Rattle.ignore_guide.specs.Names.{IsRefused}
use Rattle.ignore_guide.specs.Places.{IsIn, IsSamePlaces, KeepsOthers, entered_at}
use Rattle.ignore_guide.specs.Told.{kind_alone}
use Rattle.ignore_guide.specs.declared.error.GuideError.{GuideError}
use Rattle.ignore_guide.specs.declared.error.GuideError.TheVariants.{Memory}
use Rattle.ignore_guide.specs.declared.guide.Arrived.{Arrived}
use Rattle.ignore_guide.specs.declared.guide.Guide.{Guide}
use Rattle.ignore_guide.specs.declared.hosted.Call.{Call}
use Rattle.ignore_guide.specs.declared.hosted.Call.TheVariants as call
use Rattle.ignore_guide.specs.declared.hosted.Given.{Given}
use Rattle.ignore_guide.specs.declared.hosted.Step.{Step}
use Rattle.ignore_guide.specs.declared.hosted.Step.TheVariants as step
use Rattle.ignore_guide.specs.declared.missing.Question.{Question}
use Rattle.ignore_guide.specs.declared.missing.Wanted.{Wanted}
use Rattle.ignore_guide.specs.declared.missing.Wanted.TheVariants as wanted
use Rattle.ignore_guide.specs.declared.places.Place.{Place}
use Rattle.ignore_guide.specs.declared.places.Places.{Places}
use Rattle.ignore_guide.specs.declared.told.Told.{Told}

-- the directory of a call was loaded by answers that files may give, and its place stands for it
abbrev pub Comes : {F : Type 0} → Files F → F → Call → Guide → Arrived → Guide → Type 0
Comes files f (call.Root root) old r new =
    (above : List Placed) × (text : Path) × (dir : Dir) × IsRootBy files f old.settings root above text dir (option_map problem_of r.error)
    × StandsFor new r.place 1 (root_reached above text dir root)
Comes files f (call.Enter parent name) old r new =
    (depth : ℕ) (at : Reached) → StandsFor old parent depth at → (dir : Dir)
    × LoadsBy (stats_of files f) (reads_of files f) old.settings (join_of at.path name) dir (option_map problem_of r.error)
    × StandsFor new r.place (depth + 1) (holding dir (entry at name))

-- why a call did nothing, but for memory: a root always comes, and a directory as it is entered
abbrev pub CallRefused : Places → Call → GuideError → Type 0
CallRefused places (call.Root root) e = e ≡ Memory
CallRefused places (call.Enter parent name) e = IsRefused places parent name e

-- a call waits, with what was told for it, for something that wasn't, and nothing changed; or its
-- directory has a place, by what was told
abbrev pub StepGives : Files Told → Call → Told → Guide → Step → Guide → Type 0
StepGives files call told old (step.Wants w) new = (new ≡ old) × (w.call ≡ call) × (w.told ≡ told) × (is_told told w.question ≡ false)
StepGives files call told old (step.Arrived r) new = Comes files told call old r new

-- the directory of a call is in the one at the place that the call names, and a root is in none
abbrev pub IsPlaced : Call → Places → Place → Type 0
IsPlaced (call.Root root) places place = (parent : Place) → IsIn places parent place → ⊥
IsPlaced (call.Enter parent name) places place = IsIn places parent place

-- no directory was at the new place, which is where the call says; what is at each other place stays
pub record IsNewPlace (asked : Call) (old : Places) (place : Place) (new : Places) : Type 0 where
  pub vacant : entered_at old place ≡ None
  pub within : IsPlaced asked new place
  pub stay : KeepsOthers place old new

-- where a call waits each place is as it was, and else its directory has a new one
abbrev pub StepPlaces : Call → Places → Step → Places → Type 0
StepPlaces asked old (step.Wants w) new = IsSamePlaces old new
StepPlaces asked old (step.Arrived r) new = IsNewPlace asked old r.place new

-- what a host says that a path leads to, if anywhere; it says no size
abbrev pub kind_answer : Option FileType → Result Metadata Fault
kind_answer (Some kind) = Ok (record { file_type = kind; len = 0 })
kind_answer None = Err NotFound

-- what it says that can be read
abbrev pub read_answer : Result (Bor (List ℕ)) Fault → Option Fault → Result Contents Fault
read_answer (Ok bytes) fault = Ok (record { bytes = bytes.now; fault = fault })
read_answer (Err reason) fault = Err reason

-- what it says is the canonical path
abbrev pub path_answer : Result (Bor (List ℕ)) Fault → Result Path Fault
path_answer (Ok path) = Ok path.now
path_answer (Err fault) = Err fault

-- an answer for one path more
abbrev pub told_more : {A : Type 0} → Path → Option A → (Path → Option A) → Path → Option A
told_more path None before text = before text
told_more path (Some answer) before text = if bytes_eq path text then Some answer else before text

-- what is told by an answer to a question of what a path leads to
abbrev pub kind_by : Wanted → Given → Option (Result Metadata Fault)
kind_by wanted.Kind g = Some (kind_answer g.kind)
kind_by wanted.File g = Some (kind_answer g.kind)
kind_by wanted.Canonical g = None

-- of what can be read there
abbrev pub read_by : Wanted → Given → Option (Result Contents Fault)
read_by wanted.Kind g = None
read_by wanted.File g = Some (read_answer g.bytes g.fault)
read_by wanted.Canonical g = None

-- of its canonical path
abbrev pub path_by : Wanted → Given → Option (Result Path Fault)
path_by wanted.Kind g = None
path_by wanted.File g = None
path_by wanted.Canonical g = Some (path_answer g.path)

-- what was told, and the answer to a question with it
pub record IsToldOf (q : Question) (g : Given) (old new : Told) : Type 0 where
  pub kinds : (text : Path) → answer_at new.kinds.list.items text ≡ told_more q.path (kind_by q.wanted g) (answer_at old.kinds.list.items) text
  pub reads : (text : Path) → answer_at new.reads.list.items text ≡ told_more q.path (read_by q.wanted g) (answer_at old.reads.list.items) text
  pub paths : (text : Path) → answer_at new.paths.list.items text ≡ told_more q.path (path_by q.wanted g) (answer_at old.paths.list.items) text
  pub lacked : new.lacked ≡ old.lacked

-- a host gives what a tree has at the path of a question
pub record IsGivenOf (tree : Tree) (q : Question) (g : Given) : Type 0 where
  pub kind : (answer : Result Metadata Fault) → kind_by q.wanted g ≡ Some answer → kind_alone (tree.stat q.path true) ≡ answer
  pub read : (answer : Result Contents Fault) → read_by q.wanted g ≡ Some answer → tree.contents q.path ≡ answer
  pub path : (answer : Result Path Fault) → path_by q.wanted g ≡ Some answer → tree.canonical q.path ≡ answer
