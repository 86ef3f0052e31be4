-- What `ignored` writes: the entries of surveys that are ignored.
use Rattle.std.specs.Prelude.{◌≡◌, ◌⊎◌, ℕ, Bool, true, false, ◌&&◌, All, not, List, [], ◌++◌, map, Option, Some, Ok, Err, None, if◌then◌else◌, codes, string_bytes}
use Rattle.std.specs.List.{AllZip, flat_map}
use Rattle.ignore_base.specs.Paths.{join_of}
use Rattle.ignore_base.specs.Problem.{Problem}
use Rattle.ignore_base.specs.Text.{Bytes, Path}
use Rattle.ignore_dir.specs.Verdict.{is_ignore}
use Rattle.ignore_files.specs.Gives.{IsHonest}
use Rattle.ignore_files.specs.Kinds.{is_dir}
use Rattle.ignore_files.specs.Tree.{Tree}
use Rattle.ignore_files.specs.declared.env.Env.{Env}
use Rattle.ignore_files.specs.declared.files.Files.{Ghosts as Files}
use Rattle.ignore_survey.specs.Survey.{Entry}
use Rattle.ignore_types.specs.Types.{Draft}
use Rattle.ignore.specs.declared.options.WalkOptions.{WalkOptions}
use Rattle.commands.specs.Walking.{IsTrimmed}
use Rattle.ig_options.specs.declared.options.Options.{Options}
use Rattle.ig_commands.specs.Counts.{counted, stats_line, status_of}
use Rattle.ig_commands.specs.Form.{reasoned}
use Rattle.ig_commands.specs.Listing.{RefusesOptions}
use Rattle.ig_commands.specs.Reports.{report_line, report_of}
use Rattle.ig_commands.specs.Repositories.{IsHeld}
use Rattle.ig_commands.specs.Stops.{EndsAfter}
use Rattle.ig_commands.specs.Surveys.{AreBegun, AreSurveys, IsAskedMet, OfRoot, Seen, all_told, begun_told, wrong_in}
use Rattle.ig_commands.specs.Worktree.{worktree}
use Rattle.ig_commands.specs.Writing.{is_of_kind, record_of}
use Rattle.ig_commands.specs.declared.stop.Stop.{Stop}

-- an entry is to be listed: it is ignored, and no kind is chosen, or its kind is
abbrev pub is_topmost : Options → Entry → Bool
is_topmost o e = is_ignore e.answer.verdict && is_of_kind o (Some e.kind)

-- what is written of an entry: its path, or with `-v` its path after its reason. Without a root
-- paths and sources are below the working directory
abbrev pub entry_text : Options → Path → Entry → Bytes
entry_text o root e =
    if o.reasons then (if o.is_bare then reasoned (Some (codes ".")) o.null e.why e.path else reasoned None o.null e.why (join_of root e.path))
    else record_of o (join_of root e.path)

-- an item of a survey, and whether it is left out as a folder that holds a repository
abbrev pub Shown : Type 0
Shown = Seen × Bool

-- the items of a root, each with that
abbrev pub OfShown : Type 0
OfShown = Path × List Shown

-- the items alone
abbrev pub seen_in : OfShown → OfRoot
seen_in r = (r.0, map (λ s. s.0) r.1)

abbrev pub all_met : List OfShown → List OfRoot
all_met all = map seen_in all

-- a repository is looked for in an entry: `--no-repositories` is given, and it is a folder that else
-- were listed
abbrev pub is_searched : Options → Entry → Bool
is_searched o e = o.no_repositories && (is_topmost o e && is_dir e.kind)

-- an item is left out where a repository is looked for in it, and the folder holds one in a tree
abbrev pub IsJudged : Tree → Options → Path → Shown → Type 0
IsJudged tree o root ((Ok e, problem), left_out) =
    (is_searched o e ≡ true → IsHeld tree (join_of root e.path) left_out) × (is_searched o e ≡ false → left_out ≡ false)
IsJudged tree o root ((Err p, problem), left_out) = left_out ≡ false

abbrev pub AreJudged : Tree → Options → List OfShown → Type 0
AreJudged tree o all = All (λ r. All (IsJudged tree o r.0) r.1) all

-- what is written of an item of a root
abbrev pub written : Options → Path → Shown → Bytes
written o root ((Ok e, problem), left_out) = if (is_topmost o e && not left_out) && not o.quiet then entry_text o root e else []
written o root ((Err p, problem), left_out) = []

-- an item is an entry that is listed
abbrev pub is_found : Options → Shown → Bool
is_found o ((Ok e, problem), left_out) = is_topmost o e && not left_out
is_found o ((Err p, problem), left_out) = false

-- what is written of all roots
abbrev pub all_written : Options → List OfShown → Bytes
all_written o all = flat_map (λ r. flat_map (written o r.0) r.1) all

-- how many entries are listed
abbrev pub found_in : Options → List OfShown → ℕ
found_in o all = counted 0 (map (is_found o) (flat_map (λ r. r.1) all))

-- the entries that are ignored are written in turn, each problem is reported, and the counts where
-- they are asked for
pub record Writes (o : Options) (problems : List (Option Problem)) (all : List OfShown) (status : ℕ) (out err : Bytes → Type 0)
    : Type 0 where
  pub writes : out (all_written o all)
  pub reports : err ((flat_map report_of problems ++ all_told o (all_met all)) ++ stats_line o.stats (wrong_in o problems (all_met all)) (found_in o all))
  pub ends : status ≡ status_of (wrong_in o problems (all_met all)) (found_in o all)

-- all that is ignored was listed, by the settings that the options ask for, but with hidden entries
-- met as all others are, in the worktree of each tree that the files are consistent with, but where
-- that is asked for folders that hold a repository in that tree; or the options are rejected
abbrev pub IgnoredAsked : {F : Type 0} → Files F → F → Env → Options → Draft → ℕ → (Bytes → Type 0) → (Bytes → Type 0) → Type 0
IgnoredAsked files f env o first status out err =
    ((b : WalkOptions) × (problems : List (Option Problem)) × (roots : List Path) × (all : List OfShown)
    × AllZip IsTrimmed (map string_bytes o.roots.items) roots × Writes o problems all status out err
    × ((tree : Tree) → IsHonest files f tree
    → IsAskedMet tree env o first b problems × AreSurveys (worktree roots tree) env o b (all_met all) × AreJudged tree o all))
    ⊎ ((problem : Problem) × RefusesOptions env o first problem × (status ≡ 2) × out [] × err (report_line problem))

-- it ended early, after it wrote and reported a beginning of that; or before it began
abbrev pub IgnoredEnds : {F : Type 0} → Files F → F → Env → Options → Draft → (Bytes → Type 0) → (Bytes → Type 0) → Stop → Type 0
IgnoredEnds files f env o first out err stop =
    ((b : WalkOptions) × (problems : List (Option Problem)) × (roots : List Path) × (all : List OfShown)
    × AllZip IsTrimmed (map string_bytes o.roots.items) roots
    × EndsAfter (all_written o all) (flat_map report_of problems ++ begun_told o (all_met all)) out err stop
    × ((tree : Tree) → IsHonest files f tree
    → IsAskedMet tree env o first b problems × AreBegun (worktree roots tree) env o b (all_met all) × AreJudged tree o all))
    ⊎ EndsAfter [] [] out err stop
