-- What one directory holds for the rules by answers of files, consistent with a tree or not. A path
-- that is asked twice has an answer for each time, and the two may differ.
use Rattle.std.specs.Prelude.{◌≡◌, ◌⊎◌, Bool, true, false, ◌||◌, drop, length, List, [], ◌∷◌, ◌++◌, codes, nat_eq, Option, None, Some}
use Rattle.std.specs.Prelude.{Result, Ok, Err, is_ok}
use Rattle.std.specs.List.{starts_with}
use Rattle.std.specs.Option.{option_to_list}
use Rattle.ignore_base.specs.Text.{Bytes, Path}
use Rattle.ignore_base.specs.declared.fault.Fault.{Fault}
use Rattle.ignore_base.specs.Errors.{without_fault}
use Rattle.ignore_base.specs.Paths.{join_of}
use Rattle.ignore_base.specs.Problem.{Problem, joined_problems}
use Rattle.ignore_files.specs.Shown.{Shows}
use Rattle.ignore_files.specs.Tree.{Tree}
use Rattle.ignore_files.specs.declared.files.Files.{Ghosts as Files}
use Rattle.ignore_files.specs.declared.shown.Shown.{Shown}
use Rattle.ignore_files.specs.declared.types.Contents.{Contents}
use Rattle.ignore_files.specs.declared.types.Metadata.{Metadata}
use Rattle.ignore_files.specs.declared.types.Refusal.{Refusal}
use Rattle.ignore_files.specs.declared.types.Refusal.TheVariants.{Fault as Refused}
use Rattle.ignore_rules.specs.Matchers.{is_file_there}
use Rattle.ignore_rules.specs.RuleFile.{AddsContents, first_line}
use Rattle.ignore_rules.specs.Rules.{Building, Ruleset, built, empty}
use Rattle.ignore_dir.specs.declared.dir.Dir.{Dir}
use Rattle.ignore_dir.specs.declared.settings.Settings.{Settings}
use Rattle.ignore_dir.specs.Exclude.{Place, by_commondir, excludes_in, stopped_at}
use Rattle.ignore_dir.specs.Load.{custom_paths, is_there, joined_some, needs_marks, path_if, started}

-- which answers there are to a followed `stat` of a path: what it leads to, or a fault
abbrev pub Stats : Type 1
Stats = Path → Result Metadata Fault → Type 0

-- which there are to the question for the contents at a path
abbrev pub Reads : Type 1
Reads = Path → Result Contents Fault → Type 0

-- an answer that isn't out of memory, as files give it
abbrev pub as_answer : {A : Type 0} → Result A Fault → Result A Refusal
as_answer (Ok value) = Ok value
as_answer (Err fault) = Err (Refused fault)

-- the answers that files may give
abbrev pub stats_of : {F : Type 0} → Files F → F → Stats
stats_of files f path found = files.stat_gives f path true (as_answer found)

abbrev pub reads_of : {F : Type 0} → Files F → F → Reads
reads_of files f path read = files.contents_gives f path (as_answer read)

-- what was shown of a directory shows that nothing is at a path
abbrev pub IsLacked : Path → Shown → Path → Type 0
IsLacked dir shown path = (tree : Tree) → Shows tree dir shown → is_there tree path ≡ false

-- the answers that files may give to a followed `stat`, and a fault where nothing is shown to be
-- there: that isn't asked
abbrev pub stats_shown : {F : Type 0} → Files F → F → Path → Shown → Stats
stats_shown files f dir shown path found = stats_of files f path found ⊎ (IsLacked dir shown path × (is_ok found ≡ false))

-- the file at a path was added to the builder by these answers, if it is there; its problem is
-- reported, unless it is a fault
abbrev pub AddsFound : Reads → Path → Bool → Building → Building → Option Problem → Type 0
AddsFound Read path false old new reported = (new ≡ old) × (reported ≡ None)
AddsFound Read path true old new reported =
    (read : Result Contents Fault) × (problem : Option Problem) × Read path read × AddsContents path read old new problem
    × (reported ≡ without_fault problem)

abbrev pub AddsBy : Stats → Reads → Path → Building → Building → Option Problem → Type 0
AddsBy Stat Read path old new reported =
    (found : Result Metadata Fault) × Stat path found × AddsFound Read path (is_ok found) old new reported

-- the files at these paths were added in turn
abbrev pub AddAllBy : Stats → Reads → List Path → Building → Building → List Problem → Type 0
AddAllBy Stat Read [] old new reported = (new ≡ old) × (reported ≡ [])
AddAllBy Stat Read (path ∷ paths) old new reported =
    (between : Building) × (first : Option Problem) × (rest : List Problem) × AddsBy Stat Read path old between first
    × AddAllBy Stat Read paths between new rest × (reported ≡ option_to_list first ++ rest)

-- the rules of the files at these paths, relative to a directory, and their problems as one
pub record AreRulesBy (Stat : Stats) (Read : Reads) (s : Settings) (dir : Path) (paths : List Path) (rules : Ruleset)
    (reported : Option Problem) : Type 0 where
  pub filled : Building
  pub problems : List Problem
  pub adds : AddAllBy Stat Read paths (started s dir) filled problems
  pub builds : rules ≡ built filled
  pub reports : reported ≡ joined_problems problems

-- the rules of the exclude file, if there is one; a problem on the way to it is reported
abbrev pub AreExcludesBy : Stats → Reads → Settings → Path → Place → Ruleset → Option Problem → Type 0
AreExcludesBy Stat Read s dir (Ok found) rules reported = AreRulesBy Stat Read s dir (option_to_list found) rules reported
AreExcludesBy Stat Read s dir (Err problem) rules reported = (rules ≡ empty) × (reported ≡ Some problem)

-- what is read of `commondir` in a folder leads to a place
abbrev pub FolderLeads : Reads → Path → Place → Type 0
FolderLeads Read folder place =
    (read : Result Contents Fault) × Read (join_of folder (codes "commondir")) read × (place ≡ by_commondir folder read)

-- the line `gitdir: FOLDER` leads on from the folder, and another nowhere
abbrev pub LineLeads : Reads → Bool → Path → Place → Type 0
LineLeads Read true folder place = FolderLeads Read folder place
LineLeads Read false folder place = place ≡ Ok None

-- the first line of a `.git` file leads to a place
abbrev pub FirstLineLeads : Reads → Path → Result (Option Bytes) Fault → Place → Type 0
FirstLineLeads Read git (Ok None) place = place ≡ Ok None
FirstLineLeads Read git (Ok (Some line)) place =
    LineLeads Read (starts_with nat_eq line (codes "gitdir: ")) (drop (length (codes "gitdir: ")) line) place
FirstLineLeads Read git (Err fault) place = place ≡ stopped_at git fault

-- what was read of it does
abbrev pub ContentsLead : Reads → Path → Result Contents Fault → Place → Type 0
ContentsLead Read git (Ok contents) place = FirstLineLeads Read git (first_line contents) place
ContentsLead Read git (Err fault) place = place ≡ stopped_at git fault

-- a `.git` that is a file, or isn't, leads to the place of the exclude file
abbrev pub GitLeads : Reads → Bool → Path → Place → Type 0
GitLeads Read true git place = (read : Result Contents Fault) × Read git read × ContentsLead Read git read place
GitLeads Read false git place = place ≡ excludes_in git

-- the same where that filter is on; else there is no such place
abbrev pub LeadsIf : Bool → Reads → Bool → Path → Place → Type 0
LeadsIf true Read is_file git place = GitLeads Read is_file git place
LeadsIf false Read is_file git place = place ≡ Ok None

-- the mark of a repository, where marks matter: `.git` is there, or else `.jj`
abbrev pub IsMarkBy : Bool → Stats → Bool → Path → Bool → Type 0
IsMarkBy false Stat has_git jj mark = mark ≡ false
IsMarkBy true Stat true jj mark = mark ≡ true
IsMarkBy true Stat false jj mark = (found : Result Metadata Fault) × Stat jj found × (mark ≡ is_ok found)

-- the mark and the place of the exclude file, by one answer for `.git`, where that is asked
pub record IsGitBy (Stat : Stats) (Read : Reads) (s : Settings) (dir : Path) (mark : Bool) (place : Place) : Type 0 where
  pub found : Result Metadata Fault
  pub asked : (s.git_exclude || needs_marks s) ≡ true → Stat (join_of dir (codes ".git")) found
  pub leads : LeadsIf s.git_exclude Read (is_file_there found) (join_of dir (codes ".git")) place
  pub marks : IsMarkBy (needs_marks s) Stat (is_ok found) (join_of dir (codes ".jj")) mark

-- a directory was loaded by these answers: each rule list is that of its files, the mark is right,
-- and the problems of the four lists are joined in their order
pub record LoadsBy (Stat : Stats) (Read : Reads) (s : Settings) (dir : Path) (loaded : Dir) (reported : Option Problem) : Type 0 where
  pub of_custom : Option Problem
  pub of_ignore : Option Problem
  pub of_gitignore : Option Problem
  pub of_exclude : Option Problem
  pub place : Place
  pub custom : AreRulesBy Stat Read s dir (custom_paths s dir) loaded.custom of_custom
  pub ignore : AreRulesBy Stat Read s dir (path_if s.ignore dir (codes ".ignore")) loaded.ignore of_ignore
  pub gitignore : AreRulesBy Stat Read s dir (path_if s.git_ignore dir (codes ".gitignore")) loaded.gitignore of_gitignore
  pub git : IsGitBy Stat Read s dir loaded.mark place
  pub exclude : AreExcludesBy Stat Read s dir place loaded.exclude of_exclude
  pub reports : reported ≡ joined_some (of_custom ∷ (of_ignore ∷ (of_gitignore ∷ (of_exclude ∷ []))))
