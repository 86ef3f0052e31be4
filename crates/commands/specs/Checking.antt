-- What the program answers about paths below a root.
use Rattle.std.specs.Prelude.{◌≡◌, ◌⊎◌, ℕ, All, List, [], ◌∷◌, ◌++◌, Bool, codes, false, map, Option, option_to_list, if◌then◌else◌}
use Rattle.std.specs.List.{flat_map, list_any}
use Rattle.ignore_base.specs.Text.{Bytes, Path}
use Rattle.ignore_base.specs.Paths.{join_of}
use Rattle.ignore_base.specs.Problem.{Problem}
use Rattle.ignore_dir.specs.Load.{AreLoads, Loaded}
use Rattle.ignore_dir.specs.Query.{is_dir_there, query}
use Rattle.ignore_dir.specs.Scene.{QueryScene, scene}
use Rattle.ignore_dir.specs.Standard.{standard}
use Rattle.ignore_dir.specs.declared.incremental.IncrementalMatch.{IncrementalMatch}
use Rattle.ignore_dir.specs.declared.outside.Outside.{Outside}
use Rattle.ignore_dir.specs.declared.verdict.Verdict.{Verdict}
use Rattle.ignore_dir.specs.declared.verdict.Verdict.TheVariants as v
use Rattle.ignore_files.specs.Tree.{Tree}
use Rattle.ignore_files.specs.declared.env.Env.{Env}
use Rattle.ignore_query.specs.Fresh.{KeepsNothing}
use Rattle.ignore_query.specs.InTurn.{Leaves, ReportInTurn}
use Rattle.ignore_query.specs.InTurn.{Question as Asked}
use Rattle.ignore_query.specs.Reports.{reported}
use Rattle.ignore_query.specs.declared.incremental.IncrementalIgnore.{IncrementalIgnore}
use Rattle.ignore_query.specs.declared.kept.Cache.{Cache}
use Rattle.ignore.specs.Asked.{IsOutside}
use Rattle.ignore.specs.Builder.{unset, with_root}
use Rattle.ignore.specs.Matchers.{asked_by}
use Rattle.commands.specs.Listing.{is_known, report_of}

-- a path that was asked about, what becomes of it, and what was reported of the files of rules that
-- were read for it
pub record Checked : Type 0 where
  pub path : Path
  pub found : IncrementalMatch
  pub problem : Option Problem

-- a path, what becomes of it, and what was reported
abbrev pub checked : Path → IncrementalMatch → Option Problem → Checked
checked path found problem = record { path = path; found = found; problem = problem }

-- the word of an answer
abbrev pub word_of : Verdict → Bytes
word_of v.None = codes "none"
word_of v.Ignore = codes "ignore"
word_of v.Whitelist = codes "whitelist"

-- the line of an answer: its word and the path
abbrev pub check_line : IncrementalMatch → Path → Bytes
check_line found path = word_of found.verdict ++ (32 ∷ (path ++ 10 ∷ []))

-- what is written of a path to the output
abbrev pub line_for : Checked → Bytes
line_for c = check_line c.found c.path

-- what is reported of a path as an error
abbrev pub report_for : Checked → Bytes
report_for c = report_of c.problem

-- something is reported of a path
abbrev pub is_wrong : Checked → Bool
is_wrong c = is_known c.problem

-- these paths are answered in turn, each on a line of the output, and what is wrong is reported as
-- errors; the status is 1 where something is
pub record Checks (paths : List Path) (all : List Checked) (status : ℕ) (out err : Bytes → Type 0) : Type 0 where
  pub asked : map (λ c. c.path) all ≡ paths
  pub answers : out (flat_map line_for all)
  pub reports : err (flat_map report_for all)
  pub ends : status ≡ (if list_any is_wrong all then 1 else 0)

-- the question about a path: as a directory where there is one at it, and not a link to one
abbrev pub question_at : QueryScene → Path → Asked
question_at g path = (path, is_dir_there (g.tree.stat (join_of g.root path) false))

-- what becomes of a path in the bare tree
abbrev pub answer_at : QueryScene → Path → IncrementalMatch
answer_at g path = (query g path (question_at g path).1).0

-- an answer is that of the bare tree
abbrev pub IsAnswer : QueryScene → Checked → Type 0
IsAnswer g c = c.found ≡ answer_at g c.path

-- a path is asked where `old` is kept, and `new` after it; its problem is that of what this loads
abbrev pub IsReport : QueryScene → Cache → Cache → Path → Option Problem → Type 0
IsReport g old new path problem =
    Leaves g (question_at g path) old new × (problem ≡ reported g old path (question_at g path).1)

-- the problems are those of what each path in turn loads, by what the paths before it left kept
abbrev pub ReportsInTurn : QueryScene → List Checked → Cache → Cache → Type 0
ReportsInTurn g all old new =
    ReportInTurn g (map (λ c. question_at g c.path) all) (map (λ c. c.problem) all) old new

-- the answers are those of the bare tree, by the settings at first and the rules from outside, and
-- the problems those of what each path in turn loads, where nothing is kept at first
abbrev pub AreAnswers : Tree → Env → Path → List Checked → Type 0
AreAnswers tree env root all =
    (o : Outside) × IsOutside tree env (with_root unset root) o
    × ((loads : Path → Loaded) → AreLoads tree standard loads → let g = scene tree loads standard o root in
    All (IsAnswer g) all × (old new : Cache) × KeepsNothing old × ReportsInTurn g all old new)

-- the answers, and the next one, if there is one
abbrev pub with_next : List Checked → Option Checked → List Checked
with_next all next = all ++ option_to_list next

-- these are the answers about the first of the paths
abbrev pub AreFirst : List Path → List Checked → Type 0
AreFirst paths all = (rest : List Path) × (paths ≡ map (λ c. c.path) all ++ rest)

-- the same for the first paths alone, or for none of them
abbrev pub AreAnswersSoFar : Tree → Env → Path → List Checked → Type 0
AreAnswersSoFar tree env root all = (all ≡ []) ⊎ AreAnswers tree env root all

-- a matcher of the paths below a root, by the same settings and rules, in the working directory
abbrev pub IsMatcher : Tree → Env → Path → IncrementalIgnore → Type 0
IsMatcher tree env root m =
    (o : Outside) × IsOutside tree env (with_root unset root) o × (asked_by m ≡ (standard, o, root, env.current_dir))
