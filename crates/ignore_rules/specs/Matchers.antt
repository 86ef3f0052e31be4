-- Matchers that are built from files: from one file, and from the global file.
use Rattle.std.specs.Prelude.{◌≡◌, ◌⊎◌, Bool, true, false, Option, None, Some, Result, Ok, Err, if◌then◌else◌}
use Rattle.ignore_base.specs.Text.{Path}
use Rattle.ignore_base.specs.declared.fault.Fault.{Fault}
use Rattle.ignore_base.specs.declared.fault.Fault.TheVariants.{NoCurrentDir}
use Rattle.ignore_base.specs.Errors.{without_fault}
use Rattle.ignore_base.specs.Paths.{folder_of}
use Rattle.ignore_base.specs.Problem.{Problem, io}
use Rattle.ignore_files.specs.declared.env.Env.{Env}
use Rattle.ignore_files.specs.declared.types.Contents.{Contents}
use Rattle.ignore_files.specs.declared.types.Metadata.{Metadata}
use Rattle.ignore_files.specs.declared.types.Refusal.{Refusal}
use Rattle.ignore_files.specs.Kinds.{is_file}
use Rattle.ignore_files.specs.Tree.{Tree}
use Rattle.ignore_rules.specs.Rules.{Building, Ruleset, begun, built, empty}
use Rattle.ignore_excludes.specs.ExcludesSearch.{IsExcludesPath}
use Rattle.ignore_rules.specs.RuleFile.{AddsFile, AddsAnswer}

-- the matcher of the builder after the file was added, and the problem that is reported
abbrev pub BuildsFile : Tree → Path → Building → Ruleset → Option Problem → Type 0
BuildsFile tree path builder matcher reported =
    (filled : Building) × (problem : Option Problem) × AddsFile tree path builder filled problem × (matcher ≡ built filled)
    × (reported ≡ without_fault problem)

-- the same where the answer of one call for the file was added
abbrev pub BuildsAnswer : Path → Result Contents Refusal → Building → Ruleset → Option Problem → Type 0
BuildsAnswer path answer builder matcher reported =
    (filled : Building) × (problem : Option Problem) × AddsAnswer path answer builder filled problem × (matcher ≡ built filled)
    × (reported ≡ without_fault problem)

-- the empty matcher, or the same where the answer of one call for some file was added
abbrev pub BuildsAnyAnswer : (Path → Result Contents Refusal → Type 0) → Building → Ruleset → Option Problem → Type 0
BuildsAnyAnswer Gives builder matcher reported =
    ((matcher ≡ empty) × (reported ≡ None))
    ⊎ ((path : Path) × (answer : Result Contents Refusal) × Gives path answer × BuildsAnswer path answer builder matcher reported)

-- the matcher of one file, relative to the directory of the file
abbrev pub IsMatcherOf : Tree → Path → Ruleset → Option Problem → Type 0
IsMatcherOf tree path matcher reported = BuildsFile tree path (begun (folder_of path)) matcher reported

-- the answer of `stat` is a file
abbrev pub is_file_there : Result Metadata Fault → Bool
is_file_there (Ok metadata) = is_file metadata.file_type
is_file_there (Err fault) = false

-- the global file: the excludes file, where its path leads to a file
abbrev pub global_file : Tree → Option Path → Option Path
global_file tree None = None
global_file tree (Some path) = if is_file_there (tree.stat path true) then Some path else None

-- the matcher of the builder after the global file was added; the empty matcher where there is none
abbrev pub BuildsWith : Tree → Option Path → Building → Ruleset → Option Problem → Type 0
BuildsWith tree None builder matcher reported = (matcher ≡ empty) × (reported ≡ None)
BuildsWith tree (Some path) builder matcher reported = BuildsFile tree path builder matcher reported

-- the same for the global file that git's configuration names
abbrev pub BuildsGlobal : Tree → Env → Building → Ruleset → Option Problem → Type 0
BuildsGlobal tree env builder matcher reported =
    (found : Option Path) × IsExcludesPath tree env found × BuildsWith tree (global_file tree found) builder matcher reported

-- the matcher of the global file, relative to the working directory, if that is known
abbrev pub IsGlobalIn : Tree → Env → Option Path → Ruleset → Option Problem → Type 0
IsGlobalIn tree env None matcher reported = (matcher ≡ empty) × (reported ≡ Some (io NoCurrentDir))
IsGlobalIn tree env (Some dir) matcher reported = BuildsGlobal tree env (begun dir) matcher reported

-- the matcher of the global file for a tree and an environment
abbrev pub IsGlobalMatcher : Tree → Env → Ruleset → Option Problem → Type 0
IsGlobalMatcher tree env matcher reported = IsGlobalIn tree env env.current_dir matcher reported
