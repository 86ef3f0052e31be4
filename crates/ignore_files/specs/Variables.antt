-- What a process reports of its environment.
use Rattle.std.specs.Prelude.{◌≡◌, ◌≢◌, [], ◌∷◌, Option, None, Some, Result, Ok, Err, codes}
use Rattle.std.specs.declared.io.Error.{Error}
use Rattle.std.specs.declared.io.ErrorKind.TheVariants as kind
use Rattle.std.specs.IoError.{error_kind}
use Rattle.std.specs.declared.env.VarError.{VarError}
use Rattle.std.specs.declared.env.VarError.TheVariants.{NotPresent, NotUnicode, OutOfMemory}
use Rattle.ignore_base.specs.Text.{Bytes, Path}
use Rattle.ignore_files.specs.declared.env.Env.{Env}
use Rattle.ignore_files.specs.declared.process.Process.{Ghosts}

-- a variable that is reported so has this value: none where it isn't set or isn't UTF-8; out of
-- memory says nothing of it
abbrev pub IsReportedAs : Option Bytes → Result Bytes VarError → Type 0
IsReportedAs value (Ok text) = value ≡ Some text
IsReportedAs value (Err NotPresent) = value ≡ None
IsReportedAs value (Err NotUnicode) = value ≡ None
IsReportedAs value (Err OutOfMemory) = ⊥

-- the process reports that the variable of this name has this value
abbrev pub IsValueOf : {P : Type 0} → Ghosts P → P → Bytes → Option Bytes → Type 0
IsValueOf process p name value = (answer : Result Bytes VarError) × process.var_gives p name answer × IsReportedAs value answer

-- the value of a variable that is set and not empty
abbrev pub set_value : Option Bytes → Option Bytes
set_value None = None
set_value (Some []) = None
set_value (Some (b ∷ bs)) = Some (b ∷ bs)

-- the same of a variable of which an empty value counts as none
abbrev pub IsSetValueOf : {P : Type 0} → Ghosts P → P → Bytes → Option Bytes → Type 0
IsSetValueOf process p name value = (any : Option Bytes) × IsValueOf process p name any × (value ≡ set_value any)

-- a working directory that is reported so has this path: none where it isn't reported; out of
-- memory says nothing of it
abbrev pub IsDirReportedAs : Option Path → Result Path Error → Type 0
IsDirReportedAs dir (Ok path) = dir ≡ Some path
IsDirReportedAs dir (Err error) = (error_kind error ≢ kind.OutOfMemory) × (dir ≡ None)

-- the process reports that its working directory has this path
abbrev pub IsCurrentDir : {P : Type 0} → Ghosts P → P → Option Path → Type 0
IsCurrentDir process p dir = (answer : Result Path Error) × process.current_dir_gives p answer × IsDirReportedAs dir answer

-- the environment is the one that the process reports: its working directory, and of each other
-- field the variable with the field's name
pub record IsToldBy {P : Type 0} (process : Ghosts P) (p : P) (env : Env) : Type 0 where
  pub current_dir : IsCurrentDir process p env.current_dir
  pub home : IsSetValueOf process p (codes "HOME") env.home
  pub xdg_config_home : IsSetValueOf process p (codes "XDG_CONFIG_HOME") env.xdg_config_home
  pub git_config_global : IsValueOf process p (codes "GIT_CONFIG_GLOBAL") env.git_config_global
  pub git_config_system : IsValueOf process p (codes "GIT_CONFIG_SYSTEM") env.git_config_system
