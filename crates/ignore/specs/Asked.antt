-- What a builder reads of the files: a file that is added by name, at once, and the global file,
-- when the builder is asked.
use Rattle.std.specs.Prelude.{◌≡◌, Bool, true, false, [], ◌∷◌, ◌++◌, Option, None, Some, Result}
use Rattle.std.specs.Option.{option_or}
use Rattle.ignore_base.specs.declared.fault.Fault.TheVariants.{NoCurrentDir}
use Rattle.ignore_base.specs.Problem.{Problem, io}
use Rattle.ignore_base.specs.Text.{Path}
use Rattle.ignore_dir.specs.declared.outside.Outside.{Outside}
use Rattle.ignore_dir.specs.Load.{started}
use Rattle.ignore_files.specs.declared.env.Env.{Env}
use Rattle.ignore_files.specs.declared.types.Contents.{Contents}
use Rattle.ignore_files.specs.declared.types.Refusal.{Refusal}
use Rattle.ignore_files.specs.Tree.{Tree}
use Rattle.ignore_rules.specs.Matchers.{BuildsAnyAnswer, BuildsGlobal}
use Rattle.ignore_rules.specs.RuleFile.{AddsAnswer, AddsFile}
use Rattle.ignore_rules.specs.Rules.{Building, Ruleset, begun, built, empty, with_git_trailing_spaces}
use Rattle.ignore.specs.declared.options.WalkOptions.{WalkOptions}

-- the directory that the global file and files added by name are relative to: as set, or else the
-- working directory, if that is known
abbrev pub base_dir : WalkOptions → Env → Option Path
base_dir b env = option_or b.current_dir env.current_dir

-- a builder for the rules of a file added by name: case sensitive, trailing spaces as set
abbrev pub explicit_start : WalkOptions → Path → Building
explicit_start b dir = with_git_trailing_spaces (begun dir) b.settings.git_trailing_spaces

-- the rules of the file at a path, read by a builder, and its problem, if any
abbrev pub IsFileOf : Tree → Path → Building → Ruleset → Option Problem → Type 0
IsFileOf tree path start rules problem = (filled : Building) × AddsFile tree path start filled problem × (rules ≡ built filled)

-- the same by one of the answers for the file
abbrev pub IsAnswerOf : (Result Contents Refusal → Type 0) → Path → Building → Ruleset → Option Problem → Type 0
IsAnswerOf Gives path start rules problem =
    (answer : Result Contents Refusal) × (filled : Building) × Gives answer
    × AddsAnswer path answer start filled problem × (rules ≡ built filled)

-- the builder with the rules of one file more that was added by name, after the others
abbrev pub with_explicit : WalkOptions → Ruleset → WalkOptions
with_explicit b rules = record b { explicit = b.explicit ++ rules ∷ [] }

-- the rules of the file at a path were added, relative to the directory, and its problem is
-- reported; where no directory is known, nothing was added, and that is reported
abbrev pub AddsIgnoreIn : Tree → Path → Option Path → WalkOptions → WalkOptions → Option Problem → Type 0
AddsIgnoreIn tree path None old new reported = (new ≡ old) × (reported ≡ Some (io NoCurrentDir))
AddsIgnoreIn tree path (Some dir) old new reported =
    (rules : Ruleset) × IsFileOf tree path (explicit_start old dir) rules reported × (new ≡ with_explicit old rules)

-- the same relative to the directory of the builder in an environment
abbrev pub AddsIgnore : Tree → Env → Path → WalkOptions → WalkOptions → Option Problem → Type 0
AddsIgnore tree env path old new reported = AddsIgnoreIn tree path (base_dir old env) old new reported

-- the same for one of the answers for the file, relative to a directory
abbrev pub AddsIgnoreBy : (Result Contents Refusal → Type 0) → Path → Path → WalkOptions → WalkOptions → Option Problem → Type 0
AddsIgnoreBy Gives path dir old new reported =
    (rules : Ruleset) × IsAnswerOf Gives path (explicit_start old dir) rules reported × (new ≡ with_explicit old rules)

-- the rules of the global file, if it is asked for and its directory is known; what is wrong with
-- it isn't reported
abbrev pub IsGlobalIf : Bool → Tree → Env → WalkOptions → Option Path → Ruleset → Type 0
IsGlobalIf false tree env b dir rules = rules ≡ empty
IsGlobalIf true tree env b None rules = rules ≡ empty
IsGlobalIf true tree env b (Some dir) rules =
    (problem : Option Problem) × BuildsGlobal tree env (started b.settings dir) rules problem

-- the same for a builder: case and trailing spaces as set when it is asked
abbrev pub IsGlobal : Tree → Env → WalkOptions → Ruleset → Type 0
IsGlobal tree env b rules = IsGlobalIf b.settings.git_global tree env b (base_dir b env) rules

-- the rules from outside of the directories: overrides, types and files added by name as the
-- builder has them, and the global file
pub record IsOutside (tree : Tree) (env : Env) (b : WalkOptions) (outside : Outside) : Type 0 where
  pub overrides : outside.overrides ≡ b.overrides
  pub types : outside.types ≡ b.types
  pub explicit : outside.explicit ≡ b.explicit
  pub global : IsGlobal tree env b outside.global

-- the rules of the global file by what any files answer, if it is asked for and its directory is
-- known: those of one answer that they gave for some file, or none
abbrev pub IsGlobalByIf : Bool → (Path → Result Contents Refusal → Type 0) → WalkOptions → Option Path → Ruleset → Type 0
IsGlobalByIf false Gives b dir rules = rules ≡ empty
IsGlobalByIf true Gives b None rules = rules ≡ empty
IsGlobalByIf true Gives b (Some dir) rules = (problem : Option Problem) × BuildsAnyAnswer Gives (started b.settings dir) rules problem

-- the same for a builder: case and trailing spaces as set when it is asked
abbrev pub IsGlobalBy : (Path → Result Contents Refusal → Type 0) → Env → WalkOptions → Ruleset → Type 0
IsGlobalBy Gives env b rules = IsGlobalByIf b.settings.git_global Gives b (base_dir b env) rules

-- the rules from outside by what any files answer
pub record IsOutsideBy (Gives : Path → Result Contents Refusal → Type 0) (env : Env) (b : WalkOptions)
    (outside : Outside) : Type 0 where
  pub overrides : outside.overrides ≡ b.overrides
  pub types : outside.types ≡ b.types
  pub explicit : outside.explicit ≡ b.explicit
  pub global : IsGlobalBy Gives env b outside.global
