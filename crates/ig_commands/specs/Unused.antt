-- Which rules decide on no entry met.
use Rattle.std.specs.Prelude.{◌≡◌, ◌⊎◌, ℕ, Bool, true, ◌<◌, ◌≤◌, All, List, [], ◌∷◌, ◌++◌, Contains, Option, None, Some, Ok, if◌then◌else◌, length, map, codes, string_bytes}
use Rattle.std.specs.Cmp.Lexicographic.{slice_cmp}
use Rattle.std.specs.List.{AllZip, flat_map}
use Rattle.std.specs.Ordering.{is_lt, nat_cmp}
use Rattle.ignore_base.specs.Paths.{IsName}
use Rattle.ignore_base.specs.Problem.{Problem}
use Rattle.ignore_base.specs.Text.{Bytes, Path}
use Rattle.ignore_dir.specs.Load.{AreLoads, Loaded}
use Rattle.ignore_dir.specs.Query.{names_of}
use Rattle.ignore_dir.specs.Scene.{QueryScene, scene}
use Rattle.ignore_dir.specs.declared.outside.Outside.{Outside}
use Rattle.ignore_files.specs.Gives.{IsHonest}
use Rattle.ignore_files.specs.Kinds.{is_dir}
use Rattle.ignore_files.specs.Tree.{Tree}
use Rattle.ignore_files.specs.declared.env.Env.{Env}
use Rattle.ignore_files.specs.declared.files.Files.{Ghosts as Files}
use Rattle.ignore_query.specs.KeptRules.{rules_of}
use Rattle.ignore_query.specs.Needs.{is_among, is_decided, needed}
use Rattle.ignore_survey.specs.Survey.{Entry, Item}
use Rattle.ignore_types.specs.Types.{Draft}
use Rattle.ignore_why.specs.Cited.{Named}
use Rattle.ignore.specs.declared.options.WalkOptions.{WalkOptions}
use Rattle.commands.specs.Walking.{IsTrimmed}
use Rattle.ig_options.specs.declared.options.Options.{Options}
use Rattle.ig_commands.specs.Counts.{capped, stats_line, status_of}
use Rattle.ig_commands.specs.Form.{at_end, rule_fields, rule_of}
use Rattle.ig_commands.specs.Listing.{RefusesOptions}
use Rattle.ig_commands.specs.Reports.{report_line, report_of}
use Rattle.ig_commands.specs.Stops.{EndsAfter}
use Rattle.ig_commands.specs.Surveys.{AreMetBy, AreRootsBy, IsAskedMet, IsWhole, OfRoot, all_seen, all_told, most_items, told_by, wrong_in}
use Rattle.ig_commands.specs.Worktree.{worktree}
use Rattle.ig_commands.specs.declared.stop.Stop.{Stop}

-- a rule of a file: the path of the file, the number of its line, and the rule
pub record FileRule : Type 0 where
  pub source : Path
  pub line : ℕ
  pub pattern : Bytes

-- a rule that was read is one of a file
pub record IsOfFile (rule : Named) (r : FileRule) : Type 0 where
  pub source : rule.from ≡ Some r.source
  pub line : rule.line ≡ Some r.line
  pub pattern : rule.original ≡ r.pattern

-- the files of the directory with these names below the root are read: the rules decide on an entry
-- met, and the answer needs what the directory holds
abbrev pub IsOpened : QueryScene → List Item → List Bytes → Type 0
IsOpened g items names =
    (e : Entry) × Contains items (Ok e) × (is_decided g e.path (is_dir e.kind) ≡ true) × All IsName names
    × (is_among (needed g (names_of e.path)) names ≡ true)

-- a rule is one of a file of rules that is read in a directory at or below a root
abbrev pub IsReadBelow : QueryScene → List Item → FileRule → Type 0
IsReadBelow g items r = (names : List Bytes) × IsOpened g items names × (rule : Named) × Contains (rules_of g names) rule × IsOfFile rule r

-- a rule is one of a file of rules that is read at or below one of some roots, each with its scene
abbrev pub IsRead : (Path → QueryScene) → List OfRoot → FileRule → Type 0
IsRead at all r = (x : OfRoot) × Contains all x × IsReadBelow (at x.0) (map (λ s. s.0) x.1) r

-- a rule decides on an entry
pub record Decides (e : Entry) (r : FileRule) : Type 0 where
  pub rule : Named
  pub is : rule_of e.why ≡ Some rule
  pub source : rule.from ≡ Some r.source
  pub line : rule.line ≡ Some r.line

-- a rule that was read decides on no entry met
pub record IsUnused (at : Path → QueryScene) (all : List OfRoot) (r : FileRule) : Type 0 where
  pub read : IsRead at all r
  pub decides_nothing : (e : Entry) (problem : Option Problem) → Contains (all_seen all) (Ok e, problem) → ¬ Decides e r

-- a rule comes before another: by the path of its file, and in a file by its line
abbrev pub ComesBefore : FileRule → FileRule → Type 0
ComesBefore a b =
    (is_lt (slice_cmp nat_cmp a.source b.source) ≡ true) ⊎ ((a.source ≡ b.source) × (a.line < b.line))

-- rules in that order, each once
abbrev pub AreInOrder : List FileRule → Type 0
AreInOrder [] = Unit {0}
AreInOrder (a ∷ []) = Unit {0}
AreInOrder (a ∷ (b ∷ rest)) = ComesBefore a b × AreInOrder (b ∷ rest)

-- one of these rules stands at the place of a rule: at the same line of the same file
abbrev pub StandsAmong : List FileRule → FileRule → Type 0
StandsAmong rules r = (q : FileRule) × Contains rules q × (q.source ≡ r.source) × (q.line ≡ r.line)

-- these are the rules that decide on no entry met, one at each place
pub record AreUnused (at : Path → QueryScene) (all : List OfRoot) (unused : List FileRule) : Type 0 where
  pub each : (r : FileRule) → Contains unused r → IsUnused at all r
  pub complete : (r : FileRule) → IsUnused at all r → StandsAmong unused r
  pub in_order : AreInOrder unused

-- these are the items of the surveys that are asked for, and the rules that decide on none of them,
-- where of each root no more items were met than a survey may have
abbrev pub AreUnusedIn : Tree → Env → Options → WalkOptions → List OfRoot → List FileRule → Type 0
AreUnusedIn tree env o b all unused =
    (outside : Outside) × AreRootsBy tree env o b (map (λ r. r.0) all) outside
    × ((loads : Path → Loaded) → AreLoads tree b.settings loads → let at = λ (root : Path). scene tree loads b.settings outside root in
    All (λ r. IsWhole (at r.0) r.1) all × (All (λ r. length r.1 ≤ most_items) all → AreUnused at all unused))

-- what is written of a rule
abbrev pub written : Options → FileRule → Bytes
written o r =
    if o.quiet then []
    else rule_fields (if o.is_bare then Some (codes ".") else None) o.null r.source (Some r.line) r.pattern ++ at_end o.null

-- how many rules decide on nothing, as a count
abbrev pub count_of : List FileRule → ℕ
count_of unused = capped (length unused)

-- rules are written in turn, each problem is reported, and the counts where they are asked for
pub record Writes (o : Options) (problems : List (Option Problem)) (all : List OfRoot) (unused : List FileRule) (status : ℕ)
    (out err : Bytes → Type 0) : Type 0 where
  pub writes : out (flat_map (written o) unused)
  pub reports : err ((flat_map report_of problems ++ all_told o all) ++ stats_line o.stats (wrong_in o problems all) (count_of unused))
  pub ends : status ≡ status_of (wrong_in o problems all) (count_of unused)

-- the rules that decide on no entry met of the surveys of the roots were listed, by the settings that
-- the options ask for, but with hidden entries met as all others are, in the worktree of each tree that
-- the files are consistent with; or the options are rejected
abbrev pub UnusedAsked : {F : Type 0} → Files F → F → Env → Options → Draft → ℕ → (Bytes → Type 0) → (Bytes → Type 0) → Type 0
UnusedAsked files f env o first status out err =
    ((b : WalkOptions) × (problems : List (Option Problem)) × (roots : List Path) × (all : List OfRoot) × (unused : List FileRule)
    × AllZip IsTrimmed (map string_bytes o.roots.items) roots × Writes o problems all unused status out err
    × ((tree : Tree) → IsHonest files f tree
    → IsAskedMet tree env o first b problems × AreUnusedIn (worktree roots tree) env o b all unused))
    ⊎ ((problem : Problem) × RefusesOptions env o first problem × (status ≡ 2) × out [] × err (report_line problem))

-- it ended early, after it met and reported a beginning of that, or all of it; or before it began
abbrev pub UnusedEnds : {F : Type 0} → Files F → F → Env → Options → Draft → (Bytes → Type 0) → (Bytes → Type 0) → Stop → Type 0
UnusedEnds files f env o first out err stop =
    ((b : WalkOptions) × (problems : List (Option Problem)) × (roots : List Path) × (all : List OfRoot)
    × (is_whole : Bool) × AllZip IsTrimmed (map string_bytes o.roots.items) roots
    × EndsAfter [] (flat_map report_of problems ++ told_by is_whole o all) out err stop
    × ((tree : Tree) → IsHonest files f tree → IsAskedMet tree env o first b problems × AreMetBy is_whole (worktree roots tree) env o b all))
    ⊎ EndsAfter [] [] out err stop
