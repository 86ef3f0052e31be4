-- Builders that C sets.
use Rattle.std.specs.Prelude.{◌≡◌, ◌++◌, ◌∷◌, ℕ, [], Some, None, Result, Ok, Err}
use Rattle.std.specs.Str.{IsUtf8}
use Rattle.ignore.specs.Builder.{unset, with_root, with_custom, with_current_dir, with_standard_filters, with_hidden, with_parents, with_ignore}
use Rattle.ignore.specs.Builder.{with_git_ignore, with_git_global, with_git_exclude, with_require_git, with_case_insensitive}
use Rattle.ignore.specs.Builder.{with_git_trailing_spaces, with_follow_links, with_same_file_system, with_max_depth, with_min_depth}
use Rattle.ignore.specs.Builder.{with_max_filesize, with_limit}
use Rattle.ignore.specs.declared.options.WalkOptions.{WalkOptions}
use Rattle.ignore_base.specs.Text.{Bytes, Path}
use Rattle.ignore_files.specs.declared.env.Env.{Env}
use Rattle.ignore_kept.specs.Kinds.{setup_in}
use Rattle.ignore_kept.specs.Stops.{ended_code}
use Rattle.ignore_kept.specs.declared.kept.Kept.{Kept}
use Rattle.ignore_kept.specs.declared.kept.Kept.TheVariants as keeps
use Rattle.ignore_kept.specs.declared.setting.Setting.{Setting}
use Rattle.ignore_kept.specs.declared.setting.Setting.TheVariants as setting
use Rattle.ignore_kept.specs.declared.setup.Setup.{Setup}
use Rattle.ignore_kept.specs.declared.setup.Text.{Text}
use Rattle.ignore_kept.specs.declared.setup.Text.TheVariants as text
use Rattle.ignore_kept.specs.declared.stopped.Stopped.{Stopped}
use Rattle.ignore_kept.specs.declared.stopped.Stopped.TheVariants.{NotUtf8, Memory, Limit, Invalid, Misused, Tree}

-- a handle that keeps settings
abbrev pub keeping : Setup → Kept
keeping setup = keeps.Setup setup

-- an environment of which nothing is known
abbrev pub nowhere : Env
nowhere = record { current_dir = None; home = None; xdg_config_home = None; git_config_global = None; git_config_system = None }

-- the settings at first, with one root
abbrev pub begun : Path → Setup
begun root =
    record {
      options = with_root unset root;
      env = nowhere;
      globs = None;
      types = record { definitions = []; choices = [] };
      paths = [];
      problem = None;
    }

-- beginning a builder gives what a handle keeps, or says why it doesn't
abbrev pub Begins : Bytes → Result Kept Stopped → Type 0
Begins root (Ok kept) = kept ≡ keeping (begun root)
Begins root (Err NotUtf8) = ¬ (IsUtf8 root)
Begins root (Err Memory) = Unit {0}
Begins root (Err other) = ⊥

-- the options after a setting
abbrev pub with_setting : Setting → WalkOptions → WalkOptions
with_setting (setting.StandardFilters on) b = with_standard_filters b on
with_setting (setting.Hidden on) b = with_hidden b on
with_setting (setting.Parents on) b = with_parents b on
with_setting (setting.IgnoreFiles on) b = with_ignore b on
with_setting (setting.GitIgnore on) b = with_git_ignore b on
with_setting (setting.GitGlobal on) b = with_git_global b on
with_setting (setting.GitExclude on) b = with_git_exclude b on
with_setting (setting.RequireGit on) b = with_require_git b on
with_setting (setting.CaseInsensitive on) b = with_case_insensitive b on
with_setting (setting.TrailingSpaces on) b = with_git_trailing_spaces b on
with_setting (setting.FollowLinks on) b = with_follow_links b on
with_setting (setting.SameFileSystem on) b = with_same_file_system b on
with_setting (setting.MaxDepth depth) b = with_max_depth b depth
with_setting (setting.MinDepth depth) b = with_min_depth b depth
with_setting (setting.MaxFilesize size) b = with_max_filesize b size
with_setting (setting.Limit steps) b = with_limit b steps

-- f of the options alone
abbrev pub on_options : (WalkOptions → WalkOptions) → Setup → Setup
on_options f setup = record setup { options = f setup.options }

-- f of the environment alone
abbrev pub on_env : (Env → Env) → Setup → Setup
on_env f setup = record setup { env = f setup.env }

-- one file of rules more, after the others
abbrev pub with_path : Path → Setup → Setup
with_path path setup = record setup { paths = setup.paths ++ path ∷ [] }

-- the settings after a text
abbrev pub with_text : Text → Bytes → Setup → Setup
with_text text.Root bytes = on_options (λ b. with_root b bytes)
with_text text.Custom bytes = on_options (λ b. with_custom b bytes)
with_text text.File bytes = with_path bytes
with_text text.Base bytes = on_options (λ b. with_current_dir b bytes)
with_text text.CurrentDir bytes = on_env (λ env. record env { current_dir = Some bytes })
with_text text.Home bytes = on_env (λ env. record env { home = Some bytes })
with_text text.ConfigHome bytes = on_env (λ env. record env { xdg_config_home = Some bytes })
with_text text.GitGlobal bytes = on_env (λ env. record env { git_config_global = Some bytes })
with_text text.GitSystem bytes = on_env (λ env. record env { git_config_system = Some bytes })

-- a call that makes f of settings leads from what a handle kept to what it keeps
abbrev pub Sets : (Setup → Setup) → Kept → Result (Unit {0}) Stopped → Kept → Type 0
Sets f old (Ok done) new = (before : Setup) × (setup_in old ≡ Some before) × (new ≡ keeping (f before))
Sets f old (Err Misused) new = (new ≡ old) × (setup_in old ≡ None)
Sets f old (Err other) new = ⊥

-- a text of a builder leads from what a handle kept to what it keeps
abbrev pub SetsText : Text → Bytes → Kept → Result (Unit {0}) Stopped → Kept → Type 0
SetsText what bytes old (Ok done) new = (before : Setup) × (setup_in old ≡ Some before) × (new ≡ keeping (with_text what bytes before))
SetsText what bytes old (Err Misused) new = (new ≡ old) × (setup_in old ≡ None)
SetsText what bytes old (Err NotUtf8) new = (new ≡ old) × ¬ (IsUtf8 bytes)
SetsText what bytes old (Err Memory) new = new ≡ old
SetsText what bytes old (Err other) new = ⊥

-- the same two, by the number that C is told
abbrev pub Set : (Setup → Setup) → Kept → ℕ → Kept → Type 0
Set f old code new = (given : Result (Unit {0}) Stopped) × Sets f old given new × (code ≡ ended_code given)

abbrev pub TextSet : Text → Bytes → Kept → ℕ → Kept → Type 0
TextSet what bytes old code new = (given : Result (Unit {0}) Stopped) × SetsText what bytes old given new × (code ≡ ended_code given)
