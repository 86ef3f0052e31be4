-- What surveys of roots meet, and what is reported of it.
use Rattle.std.specs.Prelude.{◌≡◌, ◌≢◌, ◌⊎◌, ◌≤◌, ℕ, ◌+◌, Bool, true, false, All, List, [], ◌∷◌, ◌++◌, length, map, string_bytes, Option, None, Some, option_map, Result, Ok, Err, if◌then◌else◌}
use Rattle.std.specs.List.{AllZip, flat_map}
use Rattle.ignore_base.specs.Problem.{Problem, problem_of, several, at_line, at_path, at_depth, loop, io, glob, unrecognized, invalid_definition, memory}
use Rattle.ignore_base.specs.Text.{Bytes, Path}
use Rattle.ignore_base.specs.declared.error.Error.{Error}
use Rattle.ignore_base.specs.declared.fault.Fault.TheVariants.{StepLimit}
use Rattle.ignore_dir.specs.Load.{AreLoads, Loaded}
use Rattle.ignore_dir.specs.Scene.{QueryScene, scene}
use Rattle.ignore_dir.specs.declared.outside.Outside.{Outside}
use Rattle.ignore_files.specs.Kinds.{is_dir}
use Rattle.ignore_files.specs.Tree.{Tree}
use Rattle.ignore_files.specs.declared.env.Env.{Env}
use Rattle.ignore_files.specs.declared.files.Files.{Ghosts as Files}
use Rattle.ignore_query.specs.Fresh.{KeepsNothing}
use Rattle.ignore_query.specs.InTurn.{Leaves}
use Rattle.ignore_query.specs.Reached.{InEachScene}
use Rattle.ignore_query.specs.Reports.{reported}
use Rattle.ignore_query.specs.declared.incremental.IncrementalIgnore.{IncrementalIgnore}
use Rattle.ignore_query.specs.declared.kept.Cache.{Cache}
use Rattle.ignore_survey.specs.Survey.{IsSurvey, Item}
use Rattle.ignore_survey.specs.Surveyed.{entry_of}
use Rattle.ignore_survey.specs.declared.surveyed.Surveyed.{Surveyed}
use Rattle.ignore_types.specs.Types.{Draft}
use Rattle.ignore.specs.Asked.{IsOutside}
use Rattle.ignore.specs.Builder.{with_hidden}
use Rattle.ignore.specs.declared.options.WalkOptions.{WalkOptions}
use Rattle.commands.specs.Walking.{IsTrimmed}
use Rattle.ig_options.specs.declared.options.Options.{Options}
use Rattle.ig_commands.specs.Counts.{capped, counted}
use Rattle.ig_commands.specs.Listing.{IsAsked}
use Rattle.ig_commands.specs.Names.{names_told, still, told_at, told_before, with_name}
use Rattle.ig_commands.specs.Reports.{is_bad_name, is_known, report_line, report_of, to_report}
use Rattle.ig_commands.specs.declared.names.Unnamed.{Unnamed}

-- an item of a survey, with what was reported beside its entry
abbrev pub Seen : Type 0
Seen = Item × Option Problem

-- the same of a value of the code
abbrev pub seen_of : Result Surveyed Error → Seen
seen_of (Ok s) = (Ok (entry_of s), option_map problem_of s.error)
seen_of (Err e) = (Err (problem_of e), None)

-- the folder of a name that isn't UTF-8, where a problem in the place of an entry is one
abbrev pub name_place : Problem → Option Path
name_place (several ps) = None
name_place (at_line line p) = None
name_place (at_path path p) = if is_bad_name p then Some path else None
name_place (at_depth depth p) = None
name_place (loop ancestor child) = None
name_place (io fault) = None
name_place (glob pattern err) = None
name_place (unrecognized name) = None
name_place invalid_definition = None
name_place memory = None

-- what is reported at once of a problem in the place of an entry, where these names were counted: of a
-- further name those in another folder
abbrev pub item_told : Option Unnamed → Problem → Option Path → Bytes
item_told names problem None = report_line problem
item_told names problem (Some place) = told_before place names

-- the names that are counted after it
abbrev pub item_names : Option Unnamed → Option Path → Option Unnamed
item_names names None = names
item_names names (Some place) = Some (with_name place 1 names)

-- what is reported of an item, where these names were counted: at an entry, these names, since those of
-- a folder come first there, and what is wrong beside it
abbrev pub reports : Options → Option Unnamed → Seen → Bytes
reports o names (Ok e, problem) = told_at 0 names ++ report_of (to_report o problem)
reports o names (Err p, problem) = item_told names p (name_place p)

-- the names that are counted after an item
abbrev pub names_by : Option Unnamed → Seen → Option Unnamed
names_by names (Ok e, problem) = still 0 names
names_by names (Err p, problem) = item_names names (name_place p)

-- what is reported of some items in turn, where these names were counted
abbrev pub told_from : Options → Option Unnamed → List Seen → Bytes
told_from o names [] = []
told_from o names (s ∷ more) = reports o names s ++ told_from o (names_by names s) more

-- the names that are counted after them
abbrev pub left_from : Option Unnamed → List Seen → Option Unnamed
left_from names [] = names
left_from names (s ∷ more) = left_from (names_by names s) more

-- what is reported of the first items of a root
abbrev pub begun_in : Options → List Seen → Bytes
begun_in o seen = told_from o None seen

-- what is reported of all items of a root: at the end the names that were counted last
abbrev pub told_in : Options → List Seen → Bytes
told_in o seen = begun_in o seen ++ names_told (left_from None seen)

-- something is reported of an item
abbrev pub is_wrong : Options → Seen → Bool
is_wrong o (Ok e, problem) = is_known (to_report o problem)
is_wrong o (Err p, problem) = true

-- the problem beside an entry is that of what the query for it loads, where `old` is kept, which
-- leaves `new`
abbrev pub IsReported : QueryScene → Cache → Seen → Cache → Type 0
IsReported g old (Ok e, problem) new =
    Leaves g (e.path, is_dir e.kind) old new × (problem ≡ reported g old e.path (is_dir e.kind))
IsReported g old (Err p, problem) new = (problem ≡ None) × (new ≡ old)

-- the same of items in turn: what is kept before one is what those before it left
abbrev pub AreReported : QueryScene → Cache → List Seen → Cache → Type 0
AreReported g old [] new = new ≡ old
AreReported g old (s ∷ more) new = (between : Cache) × IsReported g old s between × AreReported g between more new

-- the greatest number of items that a survey may have
abbrev pub most_items : ℕ
most_items = 18446744073709551615

-- these items were met in turn; nothing was kept before them, and this after them
pub record AreMet (g : QueryScene) (seen : List Seen) (new : Cache) : Type 0 where
  pub old : Cache
  pub fresh : KeepsNothing old
  pub reported : AreReported g old seen new

-- these are the first items of the survey of a scene, by its list, where that is no longer than a
-- survey may be
abbrev pub IsBegun : QueryScene → List Seen → Type 0
IsBegun g seen = (items : List Item) → IsSurvey g items → length items ≤ most_items
    → (rest : List Item) × (items ≡ map (λ s. s.0) seen ++ rest) × (new : Cache) × AreMet g seen new

-- these are the items of the survey of a scene: its list, which is no longer than a survey may be
pub record AreAll (g : QueryScene) (seen : List Seen) (new : Cache) : Type 0 where
  pub list : IsSurvey g (map (λ s. s.0) seen)
  pub fits : length seen ≤ most_items
  pub met : AreMet g seen new

-- these are as many items as a survey may have, and then the limit: the first items of the survey of a
-- scene, by its list, of which others remain
abbrev pub IsCut : QueryScene → List Seen → Type 0
IsCut g seen =
    (first : List Seen) × (seen ≡ first ++ (Err (io StepLimit), None) ∷ []) × (length first ≡ most_items)
    × ((items : List Item) → IsSurvey g items → (rest : List Item) × (items ≡ map (λ s. s.0) first ++ rest) × (rest ≢ []))

-- these are all items of the survey of a scene; or as many as a survey may have, and then the limit
abbrev pub IsWhole : QueryScene → List Seen → Type 0
IsWhole g seen = ((new : Cache) × AreAll g seen new) ⊎ IsCut g seen

-- the items of a root
abbrev pub OfRoot : Type 0
OfRoot = Path × List Seen

-- P holds of the scenes of a matcher that keeps nothing, over files that are consistent with their
-- trees, and of the items of its root
abbrev pub OfMatcher : {F : Type 0} → Files F → F → (QueryScene → List Seen → Type 0) → IncrementalIgnore → OfRoot → Type 0
OfMatcher files f P m r =
    (r.0 ≡ string_bytes m.asked.root) × (KeepsNothing m.cache → InEachScene files f m.asked (λ g. P g r.1))

-- the items of all roots in turn
abbrev pub all_seen : List OfRoot → List Seen
all_seen all = flat_map (λ r. r.1) all

-- what is reported of the items of all roots
abbrev pub all_told : Options → List OfRoot → Bytes
all_told o all = flat_map (λ r. told_in o r.1) all

-- the same, where those of the last root are the first ones
abbrev pub begun_told : Options → List OfRoot → Bytes
begun_told o [] = []
begun_told o (r ∷ []) = begun_in o r.1
begun_told o (r ∷ (s ∷ more)) = told_in o r.1 ++ begun_told o (s ∷ more)

-- how many times something was reported, those of the files that are named included
abbrev pub wrong_in : Options → List (Option Problem) → List OfRoot → ℕ
wrong_in o problems all = capped (counted 0 (map (is_wrong o) (all_seen all)) + counted 0 (map is_known problems))

-- these rules from outside, and these roots, which are those that are asked for without the slashes
-- at their ends, are what surveys go by
pub record AreRootsBy (tree : Tree) (env : Env) (o : Options) (b : WalkOptions) (roots : List Path) (outside : Outside) : Type 0 where
  pub trimmed : AllZip IsTrimmed (map string_bytes o.roots.items) roots
  pub read : IsOutside tree env b outside

-- these are the items of the survey of each root that is asked for, without the slashes at its end:
-- by the settings of a walk, and by the rules from outside as they were read
abbrev pub AreSurveys : Tree → Env → Options → WalkOptions → List OfRoot → Type 0
AreSurveys tree env o b all =
    (outside : Outside) × AreRootsBy tree env o b (map (λ r. r.0) all) outside
    × ((loads : Path → Loaded) → AreLoads tree b.settings loads → All (λ r. IsWhole (scene tree loads b.settings outside r.0) r.1) all)

-- these are the items of the first roots, and the first items of the one after them; or nothing was
-- met
abbrev pub AreBegun : Tree → Env → Options → WalkOptions → List OfRoot → Type 0
AreBegun tree env o b all =
    (all ≡ []) ⊎ ((done : List OfRoot) × (last : OfRoot) × (rest : List Path) × (all ≡ done ++ last ∷ [])
    × (outside : Outside) × AreRootsBy tree env o b (map (λ r. r.0) done ++ last.0 ∷ rest) outside
    × ((loads : Path → Loaded) → AreLoads tree b.settings loads
    → All (λ r. IsWhole (scene tree loads b.settings outside r.0) r.1) done
    × IsBegun (scene tree loads b.settings outside last.0) last.1))

-- the settings of a walk are those that the options ask for, with these problems of the files that are
-- named, but with hidden entries met as all others are
abbrev pub IsAskedMet : Tree → Env → Options → Draft → WalkOptions → List (Option Problem) → Type 0
IsAskedMet tree env o first b problems = (asked : WalkOptions) × IsAsked tree env o first asked problems × (b ≡ with_hidden asked false)

-- what was reported of roots: of all of them, or of the first items
abbrev pub told_by : Bool → Options → List OfRoot → Bytes
told_by false o all = begun_told o all
told_by true o all = all_told o all

-- these are the items of all roots, or the first ones
abbrev pub AreMetBy : Bool → Tree → Env → Options → WalkOptions → List OfRoot → Type 0
AreMetBy false tree env o b all = AreBegun tree env o b all
AreMetBy true tree env o b all = AreSurveys tree env o b all
