-- Files of rules that are named on the command line.
use Rattle.std.specs.Prelude.{◌≡◌, Bool, true, false, List, [], ◌∷◌, codes, Option, None, Some, Result, Ok, Err, if◌then◌else◌}
use Rattle.ignore_base.specs.Text.{Path}
use Rattle.ignore_base.specs.Problem.{Problem, at_path, glob}
use Rattle.ignore_base.specs.declared.fault.Fault.{Fault}
use Rattle.ignore_files.specs.Tree.{Tree}
use Rattle.ignore_files.specs.declared.env.Env.{Env}
use Rattle.ignore_files.specs.declared.types.Contents.{Contents}
use Rattle.ignore_files.specs.declared.types.FileType.{FileType}
use Rattle.ignore_files.specs.declared.types.FileType.TheVariants.{Other}
use Rattle.ignore_files.specs.declared.types.Metadata.{Metadata}
use Rattle.ignore_files.specs.declared.types.Refusal.{Refusal}
use Rattle.ignore.specs.Asked.{AddsIgnore, AddsIgnoreBy, base_dir}
use Rattle.ignore.specs.declared.options.WalkOptions.{WalkOptions}
use Rattle.ig_options.specs.declared.options.Options.{Options}

-- the files of rules that are named, unless `--no-ignore-files` takes them out
abbrev pub named_files : Options → List Path
named_files o = if o.no_ignore_files then [] else o.ignore_files

-- a kind is that of neither a file nor a directory nor a link
abbrev pub is_other : FileType → Bool
is_other Other = true
is_other _ = false

-- a pipe, a device or the like is there
abbrev pub is_special : Result Metadata Fault → Bool
is_special (Ok m) = is_other m.file_type
is_special (Err fault) = false

-- the problem of a pipe or a device: that it isn't read
abbrev pub unread : Path → Problem
unread path = at_path path (glob None (codes "a pipe or a device isn't read"))

-- the problem of a file, if there is one; of a pipe or a device it is that it isn't read
abbrev pub explained : Tree → Path → Option Problem → Option Problem
explained tree path None = None
explained tree path (Some problem) = if is_special (tree.stat path true) then Some (unread path) else Some problem

-- adding the rules of these files in turn leads from the old settings to the new ones, and these
-- are their problems, if any
abbrev pub AddsFiles : Tree → Env → List Path → WalkOptions → WalkOptions → List (Option Problem) → Type 0
AddsFiles tree env [] old new problems = (new ≡ old) × (problems ≡ [])
AddsFiles tree env (path ∷ paths) old new problems =
    (next : WalkOptions) × (first : Option Problem) × (rest : List (Option Problem)) × (problems ≡ explained tree path first ∷ rest)
    × AddsIgnore tree env path old next first × AddsFiles tree env paths next new rest

-- over any files, a file adds its rules by one of the answers for it; it adds none where the directory
-- isn't known that they are relative to
abbrev pub AddsFileBy : (Result Contents Refusal → Type 0) → Path → Option Path → WalkOptions → WalkOptions → Type 0
AddsFileBy Gives path None old new = new ≡ old
AddsFileBy Gives path (Some dir) old new = (problem : Option Problem) × AddsIgnoreBy Gives path dir old new problem

-- the same of these files in turn
abbrev pub AddsFilesBy : (Path → Result Contents Refusal → Type 0) → Env → List Path → WalkOptions → WalkOptions → Type 0
AddsFilesBy Gives env [] old new = new ≡ old
AddsFilesBy Gives env (path ∷ paths) old new =
    (next : WalkOptions) × AddsFileBy (Gives path) path (base_dir old env) old next × AddsFilesBy Gives env paths next new
