-- What `why` writes of paths.
use Rattle.std.specs.Prelude.{◌≡◌, ◌⊎◌, ℕ, ◌+◌, Bool, true, false, not, ◌&&◌, ◌||◌, List, [], ◌∷◌, ◌++◌, codes, map, Option, None, Some, IfSome, option_map, if◌then◌else◌}
use Rattle.std.specs.Fmt.{decimal}
use Rattle.std.specs.List.{flat_map}
use Rattle.ignore_base.specs.Normalize.{normalize_of}
use Rattle.ignore_base.specs.Paths.{ends_with_slash, join_of}
use Rattle.ignore_base.specs.Problem.{Problem, problem_of}
use Rattle.ignore_base.specs.Text.{Bytes, Path}
use Rattle.ignore_dir.specs.Load.{AreLoads, Loaded}
use Rattle.ignore_dir.specs.Query.{is_dir_there, query}
use Rattle.ignore_dir.specs.Scene.{QueryScene, scene}
use Rattle.ignore_dir.specs.Verdict.{is_ignore}
use Rattle.ignore_dir.specs.declared.outside.Outside.{Outside}
use Rattle.ignore_files.specs.Gives.{IsHonest}
use Rattle.ignore_files.specs.Tree.{Tree}
use Rattle.ignore_files.specs.declared.env.Env.{Env}
use Rattle.ignore_files.specs.declared.files.Files.{Ghosts as Files}
use Rattle.ignore_query.specs.Fresh.{KeepsNothing}
use Rattle.ignore_query.specs.InTurn.{Leaves}
use Rattle.ignore_query.specs.Reports.{reported}
use Rattle.ignore_query.specs.declared.incremental.IncrementalIgnore.{IncrementalIgnore}
use Rattle.ignore_query.specs.declared.kept.Cache.{Cache}
use Rattle.ignore_types.specs.Types.{Draft}
use Rattle.ignore_why.specs.QueryWhy.{QueryWhy, query_why, query_why_of}
use Rattle.ignore.specs.Asked.{IsOutside}
use Rattle.ignore.specs.Builder.{with_root}
use Rattle.ignore.specs.Matchers.{asked_by}
use Rattle.ignore.specs.declared.options.WalkOptions.{WalkOptions}
use Rattle.ig_options.specs.declared.given.Given.{Given}
use Rattle.ig_options.specs.declared.given.Given.TheVariants as place
use Rattle.ig_options.specs.declared.options.Options.{Options}
use Rattle.ig_commands.specs.Counts.{capped, counted, status_of}
use Rattle.ig_commands.specs.Form.{reasoned}
use Rattle.ig_commands.specs.Input.{AreGiven, BeginsGiving}
use Rattle.ig_commands.specs.Listing.{IsAsked, RefusesOptions}
use Rattle.ig_commands.specs.Reports.{is_known, report_line, report_of, to_report}
use Rattle.ig_commands.specs.Root.{IsRoot}
use Rattle.ig_commands.specs.Stops.{EndsAfter, EndsReading}
use Rattle.ig_commands.specs.declared.stop.Stop.{Stop}
use Rattle.ig_commands.specs.declared.why.Said.{Said as Code}
use Rattle.ig_commands.specs.declared.why.Said.TheVariants as code

-- a path, why it is ignored or not, whether it is ignored, and what was reported of the files of
-- rules that were read for it
pub record Answered : Type 0 where
  pub path : Path
  pub why : QueryWhy
  pub is_ignored : Bool
  pub problem : Option Problem

-- what becomes of what is given in the place of a path: a record of standard input that is no path,
-- with its number; a path that isn't below the root; or a path that is
pub data Said : Type 0 where
  no_text : ℕ → Said
  ill_quoted : ℕ → Said
  not_below : Path → Said
  told : Answered → Said

-- the same of a value of the code
abbrev pub said_of : Code → Said
said_of (code.NotText number) = no_text number
said_of (code.BadlyQuoted number) = ill_quoted number
said_of (code.Outside path) = not_below path.now
said_of (code.Told path e error) =
    told (record {
      path = path.now;
      why = query_why_of e.reason;
      is_ignored = is_ignore e.answer.verdict;
      problem = option_map problem_of error;
    })

-- a path isn't written, by whether it is ignored: nothing is to be written, or only what is ignored
abbrev pub is_left_out : Options → Bool → Bool
is_left_out o is_ignored = o.quiet || (o.only_ignored && not is_ignored)

-- what is written of it: a path after its reason
abbrev pub written : Options → Path → Said → Bytes
written o root (no_text number) = []
written o root (ill_quoted number) = []
written o root (not_below path) = []
written o root (told t) = if is_left_out o t.is_ignored then [] else reasoned (Some root) o.null t.why t.path

-- the report of a record of standard input
abbrev pub record_line : ℕ → Bytes → Bytes
record_line number what = codes "ig: path " ++ (decimal number ++ (codes " of standard input " ++ (what ++ 10 ∷ [])))

-- the report of a path that isn't below the root
abbrev pub outside_line : Path → Path → Bytes
outside_line root path = codes "ig: " ++ (path ++ (codes ": outside of " ++ (root ++ 10 ∷ [])))

-- what is reported of it
abbrev pub reports : Options → Path → Said → Bytes
reports o root (no_text number) = record_line number (codes "is not UTF-8")
reports o root (ill_quoted number) = record_line number (codes "is badly quoted")
reports o root (not_below path) = outside_line root path
reports o root (told t) = report_of (to_report o t.problem)

-- something is reported of it
abbrev pub is_wrong : Options → Said → Bool
is_wrong o (no_text number) = true
is_wrong o (ill_quoted number) = true
is_wrong o (not_below path) = true
is_wrong o (told t) = is_known (to_report o t.problem)

-- it is a path that is ignored
abbrev pub is_found : Said → Bool
is_found (no_text number) = false
is_found (ill_quoted number) = false
is_found (not_below path) = false
is_found (told t) = t.is_ignored

-- a path that is asked about is a directory: one is there that isn't a link, or it ends with a slash
abbrev pub is_dir_at : QueryScene → Path → Path → Bool
is_dir_at g given text = is_dir_there (g.tree.stat (join_of g.root text) false) || ends_with_slash given

-- a path below the root is asked about where `old` is kept, and `new` after it
pub record IsAnswered (g : QueryScene) (text : Path) (old new : Cache) (t : Answered) : Type 0 where
  pub why : t.why ≡ query_why g text (is_dir_at g t.path text)
  pub is_ignored : t.is_ignored ≡ is_ignore (query g text (is_dir_at g t.path text)).0.verdict
  pub leaves : Leaves g (text, is_dir_at g t.path text) old new
  pub reports : t.problem ≡ reported g old text (is_dir_at g t.path text)

-- what becomes of a path, by the text by which it is known below the root, if there is one
abbrev pub IsSaidOf : QueryScene → Option Path → Path → Cache → Cache → Said → Type 0
IsSaidOf g known path old new (no_text number) = ⊥
IsSaidOf g known path old new (ill_quoted number) = ⊥
IsSaidOf g known path old new (not_below p) = (p ≡ path) × (known ≡ None) × (new ≡ old)
IsSaidOf g known path old new (told t) = (t.path ≡ path) × (text : Path) × (known ≡ Some text) × IsAnswered g text old new t

-- what becomes of what is given, in a working directory
abbrev pub IsSaid : QueryScene → Option Path → Given → Cache → Cache → Said → Type 0
IsSaid g dir (place.Path path) old new said = IsSaidOf g (normalize_of dir g.root path) path old new said
IsSaid g dir (place.NotText number) old new said = (said ≡ no_text number) × (new ≡ old)
IsSaid g dir (place.BadlyQuoted number) old new said = (said ≡ ill_quoted number) × (new ≡ old)

-- the same of each in turn: what is kept before it is what those before it left
abbrev pub AreSaid : QueryScene → Option Path → List Given → Cache → Cache → List Said → Type 0
AreSaid g dir [] old new [] = new ≡ old
AreSaid g dir [] old new (said ∷ more) = ⊥
AreSaid g dir (given ∷ rest) old new [] = ⊥
AreSaid g dir (given ∷ rest) old new (said ∷ more) =
    (between : Cache) × IsSaid g dir given old between said × AreSaid g dir rest between new more

-- a matcher of the paths below the root of a working directory, by the settings of a walk and the
-- rules from outside as they were read
abbrev pub IsMatcherOf : Tree → Env → WalkOptions → IncrementalIgnore → Type 0
IsMatcherOf tree env b m =
    (o : Outside) × (root : Path) × IsRoot tree env.current_dir root × IsOutside tree env (with_root b root) o
    × (asked_by m ≡ (b.settings, o, root, env.current_dir))

-- these are said of the first of what is given, by the settings of a walk: in the root of the working
-- directory, by the rules from outside as they were read, where nothing is kept at first
pub record AreFirst (tree : Tree) (env : Env) (b : WalkOptions) (all : List Given) (root : Path) (said : List Said) : Type 0 where
  pub is_root : IsRoot tree env.current_dir root
  pub first : List Given
  pub rest : List Given
  pub are : all ≡ first ++ rest
  pub outside : Outside
  pub read : IsOutside tree env (with_root b root) outside
  pub old : Cache
  pub fresh : KeepsNothing old
  pub new : Cache
  pub says : (loads : Path → Loaded) → AreLoads tree b.settings loads
      → AreSaid (scene tree loads b.settings outside root) env.current_dir first old new said

-- the same of all that is given
abbrev pub AreAll : Tree → Env → WalkOptions → List Given → Path → List Said → Type 0
AreAll tree env b all root said = (f : AreFirst tree env b all root said) × (f.rest ≡ [])

-- the same, or nothing is said
abbrev pub AreBegun : Tree → Env → WalkOptions → List Given → Path → List Said → Type 0
AreBegun tree env b all root said = (said ≡ []) ⊎ AreFirst tree env b all root said

-- how many times something was reported, those of the files that are named included
abbrev pub wrong_in : Options → List (Option Problem) → List Said → ℕ
wrong_in o problems said = capped (counted 0 (map (is_wrong o) said) + counted 0 (map is_known problems))

-- each path that is given is written after its reason, and what is wrong is reported; the status is 2
-- where something was, else 0 where a path is ignored, and 1 where none is
pub record Writes (o : Options) (problems : List (Option Problem)) (root : Path) (said : List Said) (status : ℕ)
    (out err : Bytes → Type 0) : Type 0 where
  pub writes : out (flat_map (written o root) said)
  pub reports : err (flat_map report_of problems ++ flat_map (reports o root) said)
  pub ends : status ≡ status_of (wrong_in o problems said) (counted 0 (map is_found said))

-- `why` has answered about all that is given, by the settings that the options ask for in each tree
-- that the files are consistent with; or the options are rejected
abbrev pub WhyAsked : {F : Type 0} → Files F → F → Env → Options → Draft → ℕ → (Bytes → Type 0) → (Bytes → Type 0) → Type 0
WhyAsked files f env o first status out err =
    ((b : WalkOptions) × (problems : List (Option Problem)) × (root : Path) × (said : List Said)
    × Writes o problems root said status out err
    × ((tree : Tree) → IsHonest files f tree → IsAsked tree env o first b problems × AreAll tree env b o.paths.items root said))
    ⊎ ((problem : Problem) × RefusesOptions env o first problem × (status ≡ 2) × out [] × err (report_line problem))

-- it ended early, after it wrote and reported a beginning of that; or before it began
abbrev pub WhyEnds : {F : Type 0} → Files F → F → Env → Options → Draft → (Bytes → Type 0) → (Bytes → Type 0) → Stop → Type 0
WhyEnds files f env o first out err stop =
    ((b : WalkOptions) × (problems : List (Option Problem)) × (root : Path) × (said : List Said)
    × EndsAfter (flat_map (written o root) said) (flat_map report_of problems ++ flat_map (reports o root) said) out err stop
    × ((tree : Tree) → IsHonest files f tree → IsAsked tree env o first b problems × AreBegun tree env b o.paths.items root said))
    ⊎ EndsAfter [] [] out err stop

-- `why` has answered about all that standard input gives, where its bytes are known, by the settings
-- that the options ask for; or the options are rejected
abbrev pub InputAsked : {F : Type 0} → Files F → F → Env → Options → Draft → Option Bytes → ℕ → (Bytes → Type 0) → (Bytes → Type 0) → Type 0
InputAsked files f env o first input status out err =
    ((b : WalkOptions) × (problems : List (Option Problem)) × (root : Path) × (given : List Given) × (said : List Said)
    × IfSome input (λ bytes. AreGiven o bytes given) × Writes o problems root said status out err
    × ((tree : Tree) → IsHonest files f tree → IsAsked tree env o first b problems × AreAll tree env b given root said))
    ⊎ ((problem : Problem) × RefusesOptions env o first problem × (status ≡ 2) × out [] × err (report_line problem))

-- it ended early, after it wrote and reported what there was to say of the first of that; or before it
-- began
abbrev pub InputEnds : {F : Type 0} → Files F → F → Env → Options → Draft → Option Bytes → (Bytes → Type 0) → (Bytes → Type 0) → Stop → Type 0
InputEnds files f env o first input out err stop =
    ((b : WalkOptions) × (problems : List (Option Problem)) × (root : Path) × (given : List Given) × (said : List Said)
    × IfSome input (λ bytes. BeginsGiving o bytes given)
    × EndsReading (flat_map (written o root) said) (flat_map report_of problems ++ flat_map (reports o root) said) out err stop
    × ((tree : Tree) → IsHonest files f tree → IsAsked tree env o first b problems × AreBegun tree env b given root said))
    ⊎ EndsAfter [] [] out err stop
