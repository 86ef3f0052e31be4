-- What a list writes: the items of the walk that its options ask for.
use Rattle.std.specs.Prelude.{◌≡◌, ◌≢◌, ◌⊎◌, ℕ, ◌+◌, ◌++◌, [], List, All, None, Option, Err, map, string_bytes}
use Rattle.std.specs.Prelude.{unwrap_or, if◌then◌else◌}
use Rattle.std.specs.List.{flat_map}
use Rattle.ignore_base.specs.Text.{Bytes, Path}
use Rattle.ignore_base.specs.Problem.{Problem, memory}
use Rattle.ignore_files.specs.Gives.{IsHonest}
use Rattle.ignore_files.specs.Tree.{Tree}
use Rattle.ignore_files.specs.declared.files.Files.{Ghosts as Files}
use Rattle.ignore_files.specs.declared.env.Env.{Env}
use Rattle.ignore_rules.specs.Rules.{Ruleset}
use Rattle.ignore_types.specs.Building.{IsBuilt}
use Rattle.ignore_types.specs.TypeMatch.{Matcher}
use Rattle.ignore_types.specs.Types.{Draft}
use Rattle.ignore_walk.specs.Entry.{Item}
use Rattle.ignore.specs.Builder.{with_overrides, with_types}
use Rattle.ignore.specs.declared.options.WalkOptions.{WalkOptions}
use Rattle.commands.specs.Walking.{AreBegun, AreListed, HasRoots}
use Rattle.ig_options.specs.Choices.{IsDraft, RefusesTypes}
use Rattle.ig_options.specs.Files.{AddsFiles, AddsFilesBy, named_files}
use Rattle.ig_options.specs.Globs.{AreGlobs, RefusesOneOf}
use Rattle.ig_options.specs.Settings.{walk_options}
use Rattle.ig_options.specs.declared.options.Options.{Options}
use Rattle.ig_commands.specs.Counts.{capped, counted, stats_line, status_of}
use Rattle.ig_commands.specs.Reports.{is_known, is_reported, report_line, report_of, first_reports, whole_reports}
use Rattle.ig_commands.specs.Stops.{EndsAfter}
use Rattle.ig_commands.specs.declared.stop.Stop.{Stop}
use Rattle.ig_commands.specs.Walked.{AreFirstWalked, AreWalked}
use Rattle.ig_commands.specs.Writing.{is_found, lines_of}

-- the directory that globs are relative to: the working directory, or no directory where that isn't
-- known
abbrev pub base_of : Env → Path
base_of env = unwrap_or env.current_dir []

-- the problems of the files that are named, where they are to be reported: none with
-- `--no-ignore-messages`
abbrev pub named_told : Options → List (Option Problem) → List (Option Problem)
named_told o problems = if o.no_ignore_messages then [] else problems

-- the settings of a walk are those that the options ask for, with these problems to be reported of
-- the files that are named: the settings of each option, the globs, the chosen types, and the rules
-- of these files
pub record IsAsked (tree : Tree) (env : Env) (o : Options) (first : Draft) (b : WalkOptions) (problems : List (Option Problem)) : Type 0 where
  pub globs : Ruleset
  pub are_globs : AreGlobs o (base_of env) globs
  pub draft : Draft
  pub is_draft : IsDraft o first draft
  pub types : Matcher
  pub are_types : IsBuilt draft types
  pub found : List (Option Problem)
  pub files : AddsFiles tree env (named_files o) (with_types (with_overrides (walk_options o) globs) types) b found
  pub told : problems ≡ named_told o found

-- the same over any files: the rules of the files that are named are by answers for them
pub record IsAskedBy {F : Type 0} (files : Files F) (f : F) (env : Env) (o : Options) (first : Draft) (b : WalkOptions) : Type 0 where
  pub globs : Ruleset
  pub are_globs : AreGlobs o (base_of env) globs
  pub draft : Draft
  pub is_draft : IsDraft o first draft
  pub types : Matcher
  pub are_types : IsBuilt draft types
  pub added : AddsFilesBy (files.contents_gives f) env (named_files o) (with_types (with_overrides (walk_options o) globs) types) b

-- a glob, a definition or a choice of the options is rejected with this problem
abbrev pub RefusesOptions : Env → Options → Draft → Problem → Type 0
RefusesOptions env o first problem = RefusesOneOf o (base_of env) problem ⊎ RefusesTypes o first problem

-- these items are all of the walk that is asked for, of the roots that are: by these settings over any
-- files, and with the headline, or cut by the limit
abbrev pub AreListedOf : {F : Type 0} → Files F → F → Env → Options → WalkOptions → List Item → Type 0
AreListedOf files f env o b items =
    (c : WalkOptions) × HasRoots (map string_bytes o.roots.items) b c × AreWalked files f env c items × AreListed files f env c items

-- these items are a beginning of those, or there are none yet
abbrev pub AreBegunOf : {F : Type 0} → Files F → F → Env → Options → WalkOptions → List Item → Type 0
AreBegunOf files f env o b items =
    (items ≡ [])
    ⊎ ((c : WalkOptions) × HasRoots (map string_bytes o.roots.items) b c × AreFirstWalked files f env c items
    × AreBegun files f env c items None)

-- these items are the first of those, or all of them
abbrev pub AreFirstOf : {F : Type 0} → Files F → F → Env → Options → WalkOptions → List Item → Type 0
AreFirstOf files f env o b items = AreBegunOf files f env o b items ⊎ AreListedOf files f env o b items

-- how many of some items are reported, and how many are entries that are listed
abbrev pub reported_in : Options → List Item → ℕ
reported_in o items = counted 0 (map (is_reported o) items)

abbrev pub found_in : Options → List Item → ℕ
found_in o items = counted 0 (map (is_found o) items)

-- the entries that are listed are written to the output in turn, and this is reported; these are the
-- numbers of problems and of entries. None of the items is out of memory, which ends a list
pub record Writes (o : Options) (items : List Item) (told : Bytes) (reported found : ℕ) (out err : Bytes → Type 0) : Type 0 where
  pub lists : out (flat_map (lines_of o) items)
  pub reports : err told
  pub wrong : reported ≡ reported_in o items
  pub listed : found ≡ found_in o items
  pub enough : All (λ item. item ≢ Err memory) items

-- what is reported: these problems of the files that are named, and then those of items
abbrev pub all_reports : Options → List (Option Problem) → List Item → Bytes
all_reports o problems items = flat_map report_of problems ++ whole_reports o items

-- the same of the first items
abbrev pub begun_reports : Options → List (Option Problem) → List Item → Bytes
begun_reports o problems items = flat_map report_of problems ++ first_reports o items

-- the number of all that is reported
abbrev pub all_reported : Options → List (Option Problem) → List Item → ℕ
all_reported o problems items = capped (reported_in o items + counted 0 (map is_known problems))

-- the same with the problems of the files that are named before the others, the counts after them,
-- where they are asked for, and the status
pub record Lists (o : Options) (problems : List (Option Problem)) (items : List Item) (status : ℕ) (out err : Bytes → Type 0)
    : Type 0 where
  pub lists : out (flat_map (lines_of o) items)
  pub reports : err (all_reports o problems items ++ stats_line o.stats (all_reported o problems items) (found_in o items))
  pub ends : status ≡ status_of (all_reported o problems items) (found_in o items)
  pub enough : All (λ item. item ≢ Err memory) items

-- a list has written its whole list: all of the walk by the settings that the options ask for, which
-- in each tree that the files are consistent with go by the files that are named there; or the options
-- are rejected, nothing was written, their problem was reported, and the status is 2
abbrev pub ListsAsked : {F : Type 0} → Files F → F → Env → Options → Draft → ℕ → (Bytes → Type 0) → (Bytes → Type 0) → Type 0
ListsAsked files f env o first status out err =
    ((b : WalkOptions) × (problems : List (Option Problem)) × (items : List Item) × Lists o problems items status out err
    × IsAskedBy files f env o first b × AreListedOf files f env o b items
    × ((tree : Tree) → IsHonest files f tree → IsAsked tree env o first b problems))
    ⊎ ((problem : Problem) × RefusesOptions env o first problem × (status ≡ 2) × out [] × err (report_line problem))

-- a list ended early, after it wrote and reported a beginning of that; or before it began
abbrev pub EndsAsked : {F : Type 0} → Files F → F → Env → Options → Draft → (Bytes → Type 0) → (Bytes → Type 0) → Stop → Type 0
EndsAsked files f env o first out err stop =
    ((b : WalkOptions) × (problems : List (Option Problem)) × (items : List Item)
    × EndsAfter (flat_map (lines_of o) items) (begun_reports o problems items) out err stop
    × IsAskedBy files f env o first b × AreFirstOf files f env o b items
    × ((tree : Tree) → IsHonest files f tree → IsAsked tree env o first b problems))
    ⊎ EndsAfter [] [] out err stop
