-- Guides that C leads through directories.
use Rattle.std.specs.Prelude.{◌≡◌, ◌≢◌, ◌⊎◌, ℕ, Bool, true, false, List, [], ◌∷◌, ◌++◌, Option, Some, None, Result, Ok, Err, is_some, option_map}
use Rattle.std.specs.Str.{IsUtf8}
use Rattle.ignore.specs.Asked.{AddsIgnoreBy, IsOutsideBy, base_dir}
use Rattle.ignore.specs.AskedNext.{AsksNext}
use Rattle.ignore.specs.declared.options.WalkOptions.{WalkOptions}
use Rattle.ignore_base.specs.Problem.{Problem, io, problem_of}
use Rattle.ignore_base.specs.Text.{Bytes, Path}
use Rattle.ignore_base.specs.declared.fault.Fault.TheVariants.{NoCurrentDir}
use Rattle.ignore_dir.specs.Load.{joined_some}
use Rattle.ignore_dir.specs.Steps.{Reached}
use Rattle.ignore_files.specs.declared.env.Env.{Env}
use Rattle.ignore_guide.specs.Guide.{IsSameGuide, KeepsPlaces, StandsFor}
use Rattle.ignore_guide.specs.Hosted.{CallRefused, IsToldOf, StepGives, StepPlaces}
use Rattle.ignore_guide.specs.Names.{IsAsked, IsLeft, IsNotLeft, is_name}
use Rattle.ignore_guide.specs.Places.{IsGone, IsSamePlaces, KeepsOthers, entered_at}
use Rattle.ignore_guide.specs.Told.{IsAlmostFresh, IsFresh, ReadTold}
use Rattle.ignore_guide.specs.contracts.told.ToldFiles.TheImpl.{ghosts}
use Rattle.ignore_guide.specs.declared.error.GuideError.{GuideError}
use Rattle.ignore_guide.specs.declared.error.GuideError.TheVariants as error
use Rattle.ignore_guide.specs.declared.guide.Guide.{Guide}
use Rattle.ignore_guide.specs.declared.hosted.Call.{Call}
use Rattle.ignore_guide.specs.declared.hosted.Call.TheVariants as call
use Rattle.ignore_guide.specs.declared.hosted.Given.{Given}
use Rattle.ignore_guide.specs.declared.hosted.Step.{Step}
use Rattle.ignore_guide.specs.declared.hosted.Step.TheVariants as step
use Rattle.ignore_guide.specs.declared.hosted.Waiting.{Waiting}
use Rattle.ignore_guide.specs.declared.missing.Question.{Question}
use Rattle.ignore_guide.specs.declared.missing.Wanted.{Wanted}
use Rattle.ignore_guide.specs.declared.missing.Wanted.TheVariants as wanted
use Rattle.ignore_guide.specs.declared.places.Place.{Place}
use Rattle.ignore_guide.specs.declared.told.Told.{Told}
use Rattle.ignore_kept.specs.Given.{IsGiven, IsNoFault, IsNoKind, NotGiven}
use Rattle.ignore_kept.specs.Kinds.{guided_in, setup_in}
use Rattle.ignore_kept.specs.Listings.{IsListing}
use Rattle.ignore_kept.specs.Stops.{ended_code, stop_code}
use Rattle.ignore_kept.specs.declared.guided.Begun.{Begun}
use Rattle.ignore_kept.specs.declared.guided.Guided.{Guided}
use Rattle.ignore_kept.specs.declared.guided.Reading.{Reading}
use Rattle.ignore_kept.specs.declared.guided.Stage.{Stage}
use Rattle.ignore_kept.specs.declared.guided.Stage.TheVariants as stage
use Rattle.ignore_kept.specs.declared.kept.Kept.{Kept}
use Rattle.ignore_kept.specs.declared.kept.Kept.TheVariants as keeps
use Rattle.ignore_kept.specs.declared.setup.Setup.{Setup}
use Rattle.ignore_kept.specs.declared.stopped.Stopped.{Stopped}
use Rattle.ignore_kept.specs.declared.stopped.Stopped.TheVariants.{NotUtf8, Memory as Full, Limit, Invalid, Misused, Tree}

-- a handle that keeps a guide
abbrev pub keeping : Guided → Kept
keeping guided = keeps.Guide guided

-- a guide by the settings of a builder: nothing is read, and no root was begun
abbrev pub fresh : Setup → Guided
fresh setup = record { options = setup.options; env = setup.env; paths = setup.paths; stage = stage.Fresh }

-- making the guide of a builder's handle gives what a handle keeps, or says why not
abbrev pub Starts : Kept → Result Kept Stopped → Type 0
Starts builder (Ok kept) = (setup : Setup) × (setup_in builder ≡ Some setup) × (kept ≡ keeping (fresh setup))
Starts builder (Err Misused) = setup_in builder ≡ None
Starts builder (Err Full) = Unit {0}
Starts builder (Err other) = ⊥

-- a call on a guide's handle does this to what the handle keeps; on another it does nothing
abbrev pub OnOf : {A : Type 0} → (Guided → Result A Stopped → Guided → Type 0) → Option Guided → Kept → Result A Stopped → Kept → Type 0
OnOf P None old given new = (given ≡ Err Misused) × (new ≡ old)
OnOf P (Some before) old given new = (after : Guided) × (new ≡ keeping after) × P before given after

abbrev pub OnGuide : {A : Type 0} → (Guided → Result A Stopped → Guided → Type 0) → Kept → Result A Stopped → Kept → Type 0
OnGuide P old given new = OnOf P (guided_in old) old given new

-- the same of a guide whose first root was begun: before that it does nothing
abbrev pub AtOf : {A : Type 0} → (Begun → Result A Stopped → Begun → Type 0) → Stage → Guided → Result A Stopped → Guided → Type 0
AtOf P stage.Fresh old given new = (given ≡ Err Misused) × (new ≡ old)
AtOf P (stage.Reading reading) old given new = (given ≡ Err Misused) × (new ≡ old)
AtOf P (stage.Begun before) old given new = (after : Begun) × (new ≡ record old { stage = stage.Begun after }) × P before given after

abbrev pub AtBegun : {A : Type 0} → (Begun → Result A Stopped → Begun → Type 0) → Guided → Result A Stopped → Guided → Type 0
AtBegun P old given new = AtOf P old.stage old given new

-- The question of the call that waits.

-- how what is wanted is numbered
abbrev pub wanted_code : Wanted → ℕ
wanted_code wanted.Kind = 1
wanted_code wanted.File = 2
wanted_code wanted.Canonical = 3

abbrev pub question_of : Option Waiting → Option Question
question_of None = None
question_of (Some waiting) = Some waiting.question

-- what the call that waits wants to know, if one waits
abbrev pub question_at : Stage → Option Question
question_at stage.Fresh = None
question_at (stage.Reading reading) = Some reading.question
question_at (stage.Begun begun) = question_of begun.waits

abbrev pub question_in : Guided → Option Question
question_in guided = question_at guided.stage

-- asking what is wanted gives this number, this number of what is wanted, and this path; or none is,
-- or memory ran out
abbrev pub TellsQuestion : Option Question → ℕ → ℕ → Bytes → Type 0
TellsQuestion None code wanted path = (code ≡ 1) × (wanted ≡ 0) × (path ≡ [])
TellsQuestion (Some q) code wanted path =
    ((code ≡ 0) × (wanted ≡ wanted_code q.wanted) × (path ≡ q.path)) ⊎ ((code ≡ stop_code Full) × (wanted ≡ 0) × (path ≡ []))

-- the same of a handle, which may keep no guide
abbrev pub TellsWanted : Option Guided → ℕ → ℕ → Bytes → Type 0
TellsWanted None code wanted path = (code ≡ stop_code Misused) × (wanted ≡ 0) × (path ≡ [])
TellsWanted (Some guided) code wanted path = TellsQuestion (question_in guided) code wanted path

-- Steps of a guide.

-- each place that stands for a directory still does, and none that was left is one again
pub record KeepsGuide (old new : Guide) : Type 0 where
  pub places : KeepsPlaces old new
  pub gone : (place : Place) → IsGone old.places place → IsGone new.places place
  pub same : IsSameGuide old new

-- the guide after a step: a call waits; or a directory has come, and what is wrong with its files is
-- reported, with what was read before the first root
abbrev pub settled : Begun → Guide → Step → Begun
settled b guide (step.Wants waiting) = record b { guide = guide; waits = Some waiting }
settled b guide (step.Arrived arrived) =
    record b { guide = guide; waits = None; outer = None; front = b.outer; problem = arrived.error }

-- the place of the directory, if it has come
abbrev pub place_in : Step → Option Place
place_in (step.Wants waiting) = None
place_in (step.Arrived arrived) = Some arrived.place

-- a call goes on, by what was told: it waits, and each place is as it was; or its directory has come by
-- that to a new one, and what is at each other one stays
abbrev pub Steps : Begun → Call → Told → Option Place → Begun → Type 0
Steps old asked told place new =
    (s : Step) × (guide : Guide) × StepGives ghosts asked told old.guide s guide
    × StepPlaces asked old.guide.places s guide.places × KeepsGuide old.guide guide
    × (new ≡ settled old guide s) × (place ≡ place_in s)

-- a call has ended without a place: each place is as it was
abbrev pub Ends : Begun → Begun → Type 0
Ends old new =
    (guide : Guide) × IsSamePlaces old.guide.places guide.places × KeepsGuide old.guide guide
    × (new ≡ record old { guide = guide; waits = None })

-- after an error nothing changed, unless memory ran out
abbrev pub KeptBy : GuideError → Begun → Begun → Type 0
KeptBy error.Memory old new = Unit {0}
KeptBy error.NoPlace old new = new ≡ old
KeptBy error.NoName old new = new ≡ old
KeptBy error.HasChildren old new = new ≡ old

-- a call waits
abbrev pub is_waiting : Begun → Bool
is_waiting b = is_some b.waits

-- Roots.

-- a file of rules was added by what was told, and what is wrong with it is reported; nothing was where
-- no directory is known that it is relative to
abbrev pub AddsIn : Told → Path → Option Path → WalkOptions → WalkOptions → Option Problem → Type 0
AddsIn told path None old new reported = (new ≡ old) × (reported ≡ Some (io NoCurrentDir))
AddsIn told path (Some dir) old new reported = AddsIgnoreBy (ReadTold told path) path dir old new reported

-- files of rules were added one after the other, and these are their problems
pub data AddsAll (told : Told) (env : Env) (first : WalkOptions) : List Path → WalkOptions → List (Option Problem) → Type 0 where
  none : AddsAll told env first [] first []
  more : (paths : List Path) (path : Path) (between last : WalkOptions) (problems : List (Option Problem)) (reported : Option Problem)
      → AddsAll told env first paths between problems → AddsIn told path (base_dir between env) between last reported
      → AddsAll told env first (paths ++ path ∷ []) last (problems ++ reported ∷ [])

-- a guide is the one of these settings, by what was told of its files of rules and of git's global one:
-- it has no place, no call waits, and the problems of the files are to be reported with the first root
pub record IsBegun (told : Told) (o : Guided) (b : Begun) : Type 0 where
  pub options : WalkOptions
  pub problems : List (Option Problem)
  pub adds : AddsAll told o.env o.options o.paths options problems
  pub outside : IsOutsideBy (ReadTold told) o.env options b.guide.outside
  pub settings : b.guide.settings ≡ options.settings
  pub empty : (place : Place) → entered_at b.guide.places place ≡ None
  pub outer : option_map problem_of b.outer ≡ joined_some problems
  pub waits : b.waits ≡ None
  pub front : b.front ≡ None
  pub problem : b.problem ≡ None

-- a host that told this is asked next for the rules from outside, or for nothing more
abbrev pub AsksOuter : Guided → Told → Option Question → Type 0
AsksOuter o told q = AsksNext told o.env o.options o.paths q

-- the first root goes on, by what was told of the rules from outside: it waits for more; or nothing is
-- missing, these were read, and the root was begun
abbrev pub Reads : Guided → Path → Told → Option Place → Guided → Type 0
Reads old root told place new =
    ((reading : Reading) × (reading.root ≡ root) × (reading.told ≡ told) × AsksOuter old told (Some reading.question)
    × (new ≡ record old { stage = stage.Reading reading }) × (place ≡ None))
    ⊎ ((begun after : Begun) × (anew : Told) × AsksOuter old told None × IsBegun told old begun × IsFresh anew
    × Steps begun (call.Root root) anew place after × (new ≡ record old { stage = stage.Begun after }))

-- a root that isn't the first was begun, or waits; or not, since another call waits
abbrev pub RootsIn : Path → Begun → Result (Option Place) Stopped → Begun → Type 0
RootsIn root old (Ok place) new = (is_waiting old ≡ false) × ((told : Told) × IsFresh told × Steps old (call.Root root) told place new)
RootsIn root old (Err Misused) new = (is_waiting old ≡ true) × (new ≡ old)
RootsIn root old (Err Full) new = Ends old new
RootsIn root old (Err other) new = ⊥

-- the first root was begun, or waits
abbrev pub RootsFirst : Path → Guided → Result (Option Place) Stopped → Guided → Type 0
RootsFirst root old (Ok place) new = (told : Told) × IsFresh told × Reads old root told place new
RootsFirst root old (Err Full) new = new ≡ old
RootsFirst root old (Err other) new = ⊥

-- a root was begun, or waits
abbrev pub RootsAt : Path → Stage → Guided → Result (Option Place) Stopped → Guided → Type 0
RootsAt root stage.Fresh old given new = RootsFirst root old given new
RootsAt root (stage.Reading reading) old given new = (given ≡ Err Misused) × (new ≡ old)
RootsAt root (stage.Begun before) old given new =
    (after : Begun) × (new ≡ record old { stage = stage.Begun after }) × RootsIn root before given after

-- the same by the bytes of its path
abbrev pub Roots : Bytes → Guided → Result (Option Place) Stopped → Guided → Type 0
Roots root old given new = ((given ≡ Err NotUtf8) × ¬ (IsUtf8 root) × (new ≡ old)) ⊎ RootsAt root old.stage old given new

-- Directories.

-- a directory was entered, or waits; or not, since a call waits, the names aren't ended by zeros, the
-- place is none or the name is none; or a text isn't UTF-8
abbrev pub Enters : Place → Bytes → Bytes → Begun → Result (Option Place) Stopped → Begun → Type 0
Enters parent name names old (Ok place) new =
    (is_waiting old ≡ false) × IsAsked old.guide.places parent name × IsListing names
    × ((told : Told) × IsAlmostFresh told × Steps old (call.Enter parent name) told place new)
Enters parent name names old (Err NotUtf8) new = (new ≡ old) × (¬ (IsUtf8 name) ⊎ ¬ (IsUtf8 names))
Enters parent name names old (Err Misused) new =
    (new ≡ old) × ((is_waiting old ≡ true) ⊎ (¬ (IsListing names) ⊎ ((entered_at old.guide.places parent ≡ None) ⊎ (is_name name ≡ false))))
Enters parent name names old (Err Full) new = Ends old new
Enters parent name names old (Err other) new = ⊥

-- what was wanted of a call was given, and it goes on; or no call waits, or nothing was given; or the
-- call was refused, and ended
abbrev pub GivesIn : ℕ → Bytes → ℕ → Begun → Result (Option Place) Stopped → Begun → Type 0
GivesIn kind bytes fault old (Ok place) new =
    (w : Waiting) × (old.waits ≡ Some w) × ((g : Given) × IsGiven w.question.wanted kind bytes fault g
    × ((told : Told) × IsToldOf w.question g w.told told × Steps (record old { waits = None }) w.call told place new))
GivesIn kind bytes fault old (Err NotUtf8) new =
    (new ≡ old) × ((w : Waiting) × (old.waits ≡ Some w) × NotGiven w.question.wanted kind bytes fault NotUtf8)
GivesIn kind bytes fault old (Err Misused) new =
    ((new ≡ old) × ((old.waits ≡ None) ⊎ (IsNoKind kind ⊎ IsNoFault fault)))
    ⊎ (Ends old new × ((w : Waiting) × (e : GuideError) × (old.waits ≡ Some w) × CallRefused old.guide.places w.call e))
GivesIn kind bytes fault old (Err Full) new = Ends old new
GivesIn kind bytes fault old (Err other) new = ⊥

-- the same of the first root, while it waits for the rules from outside
abbrev pub GivesFirst : ℕ → Bytes → ℕ → Reading → Guided → Result (Option Place) Stopped → Guided → Type 0
GivesFirst kind bytes fault reading old (Ok place) new =
    (g : Given) × IsGiven reading.question.wanted kind bytes fault g
    × ((told : Told) × IsToldOf reading.question g reading.told told × Reads (record old { stage = stage.Fresh }) reading.root told place new)
GivesFirst kind bytes fault reading old (Err Full) new = new ≡ record old { stage = stage.Fresh }
GivesFirst kind bytes fault reading old (Err NotUtf8) new = (new ≡ old) × NotGiven reading.question.wanted kind bytes fault NotUtf8
GivesFirst kind bytes fault reading old (Err Misused) new = (new ≡ old) × NotGiven reading.question.wanted kind bytes fault Misused
GivesFirst kind bytes fault reading old (Err other) new = ⊥

abbrev pub GivesAt : ℕ → Bytes → ℕ → Stage → Guided → Result (Option Place) Stopped → Guided → Type 0
GivesAt kind bytes fault stage.Fresh old given new = (given ≡ Err Misused) × (new ≡ old)
GivesAt kind bytes fault (stage.Reading reading) old given new = GivesFirst kind bytes fault reading old given new
GivesAt kind bytes fault (stage.Begun before) old given new =
    (after : Begun) × (new ≡ record old { stage = stage.Begun after }) × GivesIn kind bytes fault before given after

-- what was wanted was given
abbrev pub Gives : ℕ → Bytes → ℕ → Guided → Result (Option Place) Stopped → Guided → Type 0
Gives kind bytes fault old given new = GivesAt kind bytes fault old.stage old given new

-- a directory was left, and what is at each other place stays; or not, since a call waits, the place is
-- none, or a directory in it wasn't left
abbrev pub Leaves : Place → Begun → Result (Unit {0}) Stopped → Begun → Type 0
Leaves place old (Ok done) new =
    (guide : Guide) × (new ≡ record old { guide = guide }) × (is_waiting old ≡ false) × IsLeft old.guide.places place
    × IsGone guide.places place × KeepsOthers place old.guide.places guide.places
    × ((other : Place) (depth : ℕ) (at : Reached) → other ≢ place → StandsFor old.guide other depth at → StandsFor guide other depth at)
    × ((other : Place) → IsGone old.guide.places other → IsGone guide.places other) × IsSameGuide old.guide guide
Leaves place old (Err Misused) new =
    (new ≡ old) × ((is_waiting old ≡ true) ⊎ ((e : GuideError) × IsNotLeft old.guide.places place e))
Leaves place old (Err other) new = ⊥

-- By what C is told.

-- the number of a call for a place: 0, or that it waits, or why it did nothing
abbrev pub came_code : Result (Option Place) Stopped → ℕ
came_code (Ok (Some place)) = 0
came_code (Ok None) = 16
came_code (Err stopped) = stop_code stopped

abbrev pub no_place : Place
no_place = record { index = 0; serial = 0 }

-- the place; all zeros where there is none
abbrev pub came_place : Result (Option Place) Stopped → Place
came_place (Ok (Some place)) = place
came_place (Ok None) = no_place
came_place (Err stopped) = no_place

-- a call for a place, by the number and the place that C is told
abbrev pub Came : (Result (Option Place) Stopped → Kept → Type 0) → ℕ → Place → Kept → Type 0
Came P code place new = (given : Result (Option Place) Stopped) × P given new × (code ≡ came_code given) × (place ≡ came_place given)

-- a call that returns nothing, by its number
abbrev pub Done : (Result (Unit {0}) Stopped → Kept → Type 0) → ℕ → Kept → Type 0
Done P code new = (given : Result (Unit {0}) Stopped) × P given new × (code ≡ ended_code given)
