-- What `lint` writes: what is wrong with files of rules.
use Rattle.std.specs.Prelude.{◌≡◌, ◌≢◌, ◌⊎◌, ◌||◌, ◌==◌, ℕ, Bool, Contains, true, false, not, List, [], ◌∷◌, ◌++◌, codes, is_some, length, nat_lt, Option, None, Some, Ok, Err}
use Rattle.std.specs.Prelude.{if◌then◌else◌, ⊤}
use Rattle.std.specs.Fmt.{decimal}
use Rattle.std.specs.Io.KnownBytes.{Appends}
use Rattle.std.specs.List.{AllZip, flat_map, list_any}
use Rattle.ignore_base.specs.Faults.{fault_text}
use Rattle.ignore_base.specs.Problem.{Problem}
use Rattle.ignore_base.specs.Text.{Bytes, Path}
use Rattle.ignore_base.specs.declared.fault.Fault.{Fault}
use Rattle.ignore_every.specs.declared.error.Error.TheVariants as refused
use Rattle.ignore_every.specs.declared.error.Error.{Error as Refused}
use Rattle.ignore_files.specs.Gives.{IsHonest}
use Rattle.ignore_files.specs.Tree.{Tree}
use Rattle.ignore_files.specs.declared.env.Env.{Env}
use Rattle.ignore_files.specs.declared.files.Files.{Ghosts as Files}
use Rattle.ignore_files.specs.declared.types.Contents.{Contents}
use Rattle.ignore_types.specs.Types.{Draft}
use Rattle.ig_every.specs.Linted.{IsLinted}
use Rattle.ig_every.specs.Texts.{finding_json, wrong_text}
use Rattle.ig_every.specs.declared.diagnostic.Diagnostic.{Diagnostic}
use Rattle.ig_every.specs.declared.diagnostic.Wrong.{Wrong}
use Rattle.ig_every.specs.declared.diagnostic.Wrong.TheVariants.{InFolders}
use Rattle.ig_every.specs.declared.linted.Linted.{Linted}
use Rattle.ig_options.specs.declared.given.Given.{Given}
use Rattle.ig_options.specs.declared.given.Given.TheVariants.{Path as Named, NotText, BadlyQuoted}
use Rattle.ig_options.specs.declared.options.Options.{Options}
use Rattle.ig_commands.specs.Form.{at_end, between, field}
use Rattle.ig_commands.specs.Listing.{RefusesOptions}
use Rattle.ig_commands.specs.Reports.{report_line}
use Rattle.ig_commands.specs.Sides.{how_read}
use Rattle.ig_commands.specs.declared.names.Unnamed.{Unnamed}

-- what separates the fields after the number of a line
abbrev pub after_line : Bool → Bytes
after_line null = if null then 0 ∷ [] else codes ": "

-- the fields of what is wrong with a line: the path of the file, the number of the line, the rule, and
-- what is wrong
abbrev pub finding_fields : Bool → Path → Diagnostic → Bytes
finding_fields null path d =
    field null path ++ (between null ++ (decimal d.line ++ (after_line null ++ (d.rule ++ (after_line null ++ (wrong_text d.wrong ++ at_end null))))))

-- how it is written: as an object of JSON, or by its fields; with `-q` not at all
abbrev pub finding_text : Options → Bool → Path → Diagnostic → Bytes
finding_text o json path d =
    if o.quiet then [] else if json then finding_json path d ++ at_end o.null else finding_fields o.null path d

-- the same, if anything is wrong
abbrev pub option_text : Options → Bool → Path → Option Diagnostic → Bytes
option_text o json path None = []
option_text o json path (Some d) = finding_text o json path d

-- the line that reports that a file can't be read, or not to its end
abbrev pub fault_line : Path → Fault → Bytes
fault_line path fault = codes "ig: " ++ (path ++ (codes ": " ++ (fault_text fault ++ 10 ∷ [])))

-- why the rules of a file weren't judged
abbrev pub refused_text : Refused → Bytes
refused_text refused.TooLarge = codes "too many states to judge its rules"
refused_text refused.Rejected = codes "the search isn't accepted by its check"
refused_text refused.Memory = codes "the search isn't accepted by its check"

-- the line that reports it
abbrev pub unjudged_line : Path → Refused → Bytes
unjudged_line path why = codes "ig: " ++ (path ++ (codes ": " ++ (refused_text why ++ 10 ∷ [])))

-- what was found of a file: that it can't be read; or how its reading ended, what is wrong with it, and
-- what is told of each of its rules, if anything is
pub data Look : Type 0 where
  unread : Path → Fault → Look
  looked : Path → Option Fault → Linted → List (Option Diagnostic) → Look

-- what is written of it: of its lines, of its rules, and the notes
abbrev pub look_text : Options → Bool → Look → Bytes
look_text o json (unread path fault) = []
look_text o json (looked path fault l told) =
    flat_map (finding_text o json path) l.lines.items
    ++ (flat_map (option_text o json path) told ++ flat_map (finding_text o json path) l.verdicts.notes.items)

-- what is reported of a file whose reading ended so, and whose rules weren't judged for this reason
abbrev pub wanting : Path → Option Fault → Option Refused → Bytes
wanting path (Some fault) why = fault_line path fault
wanting path None None = []
wanting path None (Some why) = unjudged_line path why

abbrev pub look_report : Look → Bytes
look_report (unread path fault) = fault_line path fault
look_report (looked path fault l told) = wanting path fault l.verdicts.refused

-- something is reported of it; something is wrong with it, of which notes don't count
abbrev pub is_reported : Look → Bool
is_reported (unread path fault) = true
is_reported (looked path fault l told) = is_some fault || is_some l.verdicts.refused

abbrev pub is_found : Look → Bool
is_found (unread path fault) = false
is_found (looked path fault l told) = not (length l.lines.items == 0) || list_any is_some told

-- the file has rules, or it isn't known which are dead
abbrev pub has_rules : Look → Bool
has_rules (unread path fault) = false
has_rules (looked path fault l told) = not (length l.verdicts.rules.items == 0) || is_some l.verdicts.refused

-- the status: 2 where something was reported, else 1 where something is wrong, and else 0
abbrev pub lint_status : Bool → Bool → ℕ
lint_status reported found = if reported then 2 else if found then 1 else 0

-- a rule decides in ignored folders alone
abbrev pub IsInFolders : Wrong → Type 0
IsInFolders (InFolders folder line) = ⊤
IsInFolders _ = ⊥

-- of these files there is another than the one at a path
abbrev pub HasOther : List Path → Path → Type 0
HasOther files path = (other : Path) × Contains files other × (other ≢ path)

-- this is told of what is wrong with a rule of one of these files: that; or nothing, where it decides in
-- ignored folders alone, since another of the files may re-include the folder. Which does isn't stated
abbrev pub IsTold : List Path → Path → Option Diagnostic → Option Diagnostic → Type 0
IsTold files path None told = told ≡ None
IsTold files path (Some d) None = IsInFolders d.wrong × HasOther files path
IsTold files path (Some d) (Some e) = e ≡ d

-- notes are asked for only where they may be
abbrev pub MayNote : Bool → Bool → Type 0
MayNote true has_notes = ⊤
MayNote false has_notes = has_notes ≡ false

-- this was found of the file at a path of a tree, one of these files
abbrev pub IsLook : Tree → Options → List Path → Bool → Path → Look → Type 0
IsLook tree o files may_note path (unread p fault) = (p ≡ path) × (tree.contents path ≡ Err fault)
IsLook tree o files may_note path (looked p fault l told) =
    (p ≡ path) × ((contents : Contents) × (tree.contents path ≡ Ok contents) × (fault ≡ contents.fault)
    × ((has_notes : Bool) × MayNote may_note has_notes × IsLinted (how_read o) path contents.bytes has_notes l)
    × AllZip (IsTold files path) l.verdicts.rules.items told)

-- what was found of some files was written and reported
pub record WritesLooks (o : Options) (json any : Bool) (looks : List Look) (status : ℕ) (out : Bytes → Type 0) : Type 0 where
  pub writes : out (flat_map (look_text o json) looks)
  pub ends : status ≡ lint_status (any || list_any is_reported looks) (list_any is_found looks)

-- the path that is given, if one is
abbrev pub given_path : Given → List Path
given_path (Named path) = path ∷ []
given_path (NotText number) = []
given_path (BadlyQuoted number) = []

-- the paths that are given
abbrev pub given_paths : Options → List Path
given_paths o = flat_map given_path o.paths.items

-- the files that are given were looked at, in their order, as they are in each tree that the files are
-- consistent with, and without notes
abbrev pub LintsGiven : {F : Type 0} → Files F → F → Options → Bool → ℕ → (Bytes → Type 0) → (Bytes → Type 0) → Type 0
LintsGiven files f o json status out err =
    (looks : List Look) × WritesLooks o json false looks status out × err (flat_map look_report looks)
    × ((tree : Tree) → IsHonest files f tree → AllZip (IsLook tree o (given_paths o) false) (given_paths o) looks)

-- some files were looked at: those that lie elsewhere, without notes; then those that were met, with notes
-- only where none of the former has rules. Which these are isn't stated
pub record LooksMet (tree : Tree) (o : Options) (above below : List Path) (first rest : List Look) : Type 0 where
  pub elsewhere : AllZip (IsLook tree o (above ++ below) false) above first
  pub met : AllZip (IsLook tree o (above ++ below) (not (list_any has_rules first))) below rest

-- what was reported while files were sought, whose reports were counted: nothing where there were none
abbrev pub IsCounted : ℕ → (Bytes → Type 0) → Type 0
IsCounted reports err = (told : Bytes) × err told × (reports ≡ 0 → told ≡ [])

-- a count of all reports so far is one of them and of those that were added
abbrev pub StillCounts : ℕ → Option Bytes → ℕ → Option Bytes → Type 0
StillCounts old before new now = (start : Option Bytes) → IsCounted old (Appends start before) → IsCounted new (Appends start now)

-- the same, as long as names are counted that are told later: there are none where nothing was reported
abbrev pub CountsSoFar : ℕ → Option Unnamed → Option Bytes → Option Bytes → Type 0
CountsSoFar reports names start now = (told : Bytes) × Appends start now told × (reports ≡ 0 → (told ≡ []) × (names ≡ None))

-- so it was, after what was reported while they were sought, which counts for the status; or the options
-- are rejected
abbrev pub LintsMet : {F : Type 0} → Files F → F → Env → Options → Draft → Bool → ℕ → (Bytes → Type 0) → (Bytes → Type 0) → Type 0
LintsMet files f env o first json status out err =
    ((above : List Path) × (below : List Path) × (first : List Look) × (rest : List Look) × (reports : ℕ)
    × WritesLooks o json (nat_lt 0 reports) (first ++ rest) status out
    × IsCounted reports (λ told. err (told ++ flat_map look_report (first ++ rest)))
    × ((tree : Tree) → IsHonest files f tree → LooksMet tree o above below first rest))
    ⊎ ((problem : Problem) × RefusesOptions env o first problem × (status ≡ 2) × out [] × err (report_line problem))

-- without files that are given some were met; else those were looked at
abbrev pub LintsBy : Bool → {F : Type 0} → Files F → F → Env → Options → Draft → Bool → ℕ → (Bytes → Type 0) → (Bytes → Type 0) → Type 0
LintsBy true files f env o first json status out err = LintsMet files f env o first json status out err
LintsBy false files f env o first json status out err = LintsGiven files f o json status out err

abbrev pub LintAsked : {F : Type 0} → Files F → F → Env → Options → Draft → Bool → ℕ → (Bytes → Type 0) → (Bytes → Type 0) → Type 0
LintAsked files f env o first json status out err = LintsBy (length o.paths.items == 0) files f env o first json status out err
