-- The search for git's excludes file: the configurations in order, and the first that gives a
-- value. 126 `~`
use Rattle.std.specs.Prelude.{◌≡◌, ◌⊎◌, ◌==◌, List, [], ◌∷◌, codes, if◌then◌else◌, Option, None, Some, Result, Ok, Err}
use Rattle.std.specs.List.{flat_map}
use Rattle.std.specs.Option.{option_or}
use Rattle.ignore_base.specs.Text.{Bytes, Path}
use Rattle.ignore_base.specs.Paths.{join_of}
use Rattle.ignore_base.specs.declared.fault.Fault.{Fault}
use Rattle.ignore_files.specs.Tree.{Tree}
use Rattle.ignore_files.specs.Variables.{set_value}
use Rattle.ignore_files.specs.declared.env.Env.{Env}
use Rattle.ignore_files.specs.declared.types.Contents.{Contents}
use Rattle.ignore_files.specs.declared.types.Refusal.{Refusal}
use Rattle.ignore_files.specs.declared.types.Refusal.TheVariants.{Memory}
use Rattle.ignore_files.specs.declared.types.Refusal.TheVariants.{Fault as Refused}
use Rattle.ignore_excludes.specs.Excludes.{IsValue}

-- a path below a folder, where the folder is known
abbrev pub path_below : Option Path → Path → Option Path
path_below None path = None
path_below (Some folder) path = Some (join_of folder path)

-- the folder of the user's configuration: `XDG_CONFIG_HOME`, else `.config` in the home directory
abbrev pub xdg_folder : Env → Option Path
xdg_folder env = option_or (set_value env.xdg_config_home) (path_below env.home (codes ".config"))

-- the configuration files, in the order in which they are searched
abbrev pub configurations : Env → List (Option Path)
configurations env =
    set_value env.git_config_global
    ∷ (path_below env.home (codes ".gitconfig")
    ∷ (path_below (xdg_folder env) (codes "git/config")
    ∷ (option_or (set_value env.git_config_system) (Some (codes "/etc/gitconfig"))
    ∷ [])))

-- the bytes give their value, unless reading ended with a fault
abbrev pub ReadGives : Bytes → Option Fault → Option Bytes → Type 0
ReadGives bytes None found = IsValue bytes found
ReadGives bytes (Some fault) found = found ≡ None

-- a file that can't be opened gives no value
abbrev pub ContentsGive : Result Contents Fault → Option Bytes → Type 0
ContentsGive (Ok contents) found = ReadGives contents.bytes contents.fault found
ContentsGive (Err fault) found = found ≡ None

-- the value that the file at a path of a tree gives
abbrev pub TreeGives : Tree → Path → Option Bytes → Type 0
TreeGives tree path found = ContentsGive (tree.contents path) found

-- the value that one answer gives; that memory ran out is none
abbrev pub AnswerGives : Result Contents Refusal → Option Bytes → Type 0
AnswerGives (Ok contents) found = ContentsGive (Ok contents) found
AnswerGives (Err (Refused fault)) found = ContentsGive (Err fault) found
AnswerGives (Err Memory) found = ⊥

-- the value that some answer of files for a path gives
abbrev pub FilesGive : (Path → Result Contents Refusal → Type 0) → Path → Option Bytes → Type 0
FilesGive Answers path found = (answer : Result Contents Refusal) × Answers path answer × AnswerGives answer found

-- the value that the configuration at a path gives; none where its path is unknown
abbrev pub PathGives : (Path → Option Bytes → Type 0) → Option Path → Option Bytes → Type 0
PathGives Says None found = found ≡ None
PathGives Says (Some path) found = Says path found

-- the value of the first configuration that gives one
abbrev pub IsFirstValue : (Path → Option Bytes → Type 0) → List (Option Path) → Option Bytes → Type 0
IsFirstValue Says [] found = found ≡ None
IsFirstValue Says (place ∷ places) None = PathGives Says place None × IsFirstValue Says places None
IsFirstValue Says (place ∷ places) (Some value) =
    PathGives Says place (Some value) ⊎ (PathGives Says place None × IsFirstValue Says places (Some value))

-- the value with the home directory, where it is known, in place of each `~`
abbrev pub expanded : Option Path → Bytes → Path
expanded None value = value
expanded (Some home) value = flat_map (λ b. if b == 126 then home else b ∷ []) value

-- the path that a value names; without a value, `git/ignore` in the folder of the user's
-- configuration
abbrev pub excludes_path : Env → Option Bytes → Option Path
excludes_path env None = path_below (xdg_folder env) (codes "git/ignore")
excludes_path env (Some value) = Some (expanded env.home value)

-- the excludes file of an environment, or none, where the file at a path gives such a value
abbrev pub LeadsTo : (Path → Option Bytes → Type 0) → Env → Option Path → Type 0
LeadsTo Says env found = (value : Option Bytes) × IsFirstValue Says (configurations env) value × (found ≡ excludes_path env value)

-- the path of the excludes file for a tree and an environment, or none
abbrev pub IsExcludesPath : Tree → Env → Option Path → Type 0
IsExcludesPath tree env found = LeadsTo (TreeGives tree) env found

-- the path that a configuration's value names, if it gives a value
abbrev pub GivesPath : (Path → Option Bytes → Type 0) → Option Path → Option Path → Option Path → Type 0
GivesPath Says home place None = PathGives Says place None
GivesPath Says home place (Some path) = (value : Bytes) × PathGives Says place (Some value) × (path ≡ expanded home value)

-- the same for the first of several configurations that gives a value
abbrev pub IsFirstPath : (Path → Option Bytes → Type 0) → Option Path → List (Option Path) → Option Path → Type 0
IsFirstPath Says home places None = IsFirstValue Says places None
IsFirstPath Says home places (Some path) = (value : Bytes) × IsFirstValue Says places (Some value) × (path ≡ expanded home value)
