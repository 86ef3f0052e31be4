-- What a run of the program does.
use Rattle.std.specs.Prelude.{◌≡◌, ◌⊎◌, ℕ, Bool, false, true, [], Option, None, ⊤}
use Rattle.std.specs.Io.KnownBytes.{Appends, Keeps}
use Rattle.std.specs.declared.io.ErrorKind.{ErrorKind}
use Rattle.ignore_base.specs.Problem.{Problem}
use Rattle.ignore_base.specs.Text.{Bytes}
use Rattle.ignore_files.specs.declared.env.Env.{Env}
use Rattle.ignore_files.specs.declared.files.Files.{Ghosts as Files}
use Rattle.ignore_types.specs.AllDefaults.{all_default_rows}
use Rattle.ignore_types.specs.Defaults.{with_defaults}
use Rattle.ignore_types.specs.Types.{Draft}
use Rattle.ig_options.specs.declared.options.Options.{Options}
use Rattle.ig_options.specs.declared.words.Task.{Task}
use Rattle.ig_options.specs.declared.words.Task.TheVariants as command
use Rattle.ig_commands.specs.Ignored.{IgnoredAsked, IgnoredEnds}
use Rattle.ig_commands.specs.Lint.{LintAsked}
use Rattle.ig_commands.specs.Listing.{EndsAsked, ListsAsked, RefusesOptions}
use Rattle.ig_commands.specs.Reports.{report_line}
use Rattle.ig_commands.specs.Same.{SameAsked, SameEnds}
use Rattle.ig_commands.specs.Stops.{EndsAfter, IsUnwritten, SaidBy, reason, stop_status}
use Rattle.ig_commands.specs.Types.{ListsTypes}
use Rattle.ig_commands.specs.Unused.{UnusedAsked, UnusedEnds}
use Rattle.ig_commands.specs.Why.{InputAsked, InputEnds, WhyAsked, WhyEnds}
use Rattle.ig_commands.specs.declared.stop.Stop.{Stop}

-- a command was carried out, with this status, where standard input has these bytes, if they are known;
-- the draft has the file types that exist at first
abbrev pub Does : {F : Type 0} → Files F → F → Env → Options → Draft → Task → Option Bytes → ℕ → (Bytes → Type 0) → (Bytes → Type 0) → Type 0
Does files f env o first command.List input status out err = ListsAsked files f env o first status out err
Does files f env o first command.Ignored input status out err = IgnoredAsked files f env o first status out err
Does files f env o first command.Why input status out err = WhyAsked files f env o first status out err
Does files f env o first command.Unused input status out err = UnusedAsked files f env o first status out err
Does files f env o first command.Lint input status out err = LintAsked files f env o first false status out err
Does files f env o first command.LintJson input status out err = LintAsked files f env o first true status out err
Does files f env o first (command.Same most) input status out err = SameAsked files f o most input status out err
Does files f env o first command.Types input status out err = ListsTypes o.type_add first status out err

-- a command ended early
abbrev pub Ends : {F : Type 0} → Files F → F → Env → Options → Draft → Task → Option Bytes → (Bytes → Type 0) → (Bytes → Type 0) → Stop → Type 0
Ends files f env o first command.List input out err stop = EndsAsked files f env o first out err stop
Ends files f env o first command.Ignored input out err stop = IgnoredEnds files f env o first out err stop
Ends files f env o first command.Why input out err stop = WhyEnds files f env o first out err stop
Ends files f env o first command.Unused input out err stop = UnusedEnds files f env o first out err stop
Ends files f env o first command.Lint input out err stop = ⊤
Ends files f env o first command.LintJson input out err stop = ⊤
Ends files f env o first (command.Same most) input out err stop = SameEnds files f o most input out err stop
Ends files f env o first command.Types input out err stop = EndsAfter [] [] out err stop

-- a command was carried out, or `why` of the paths of standard input
abbrev pub DoesBy : Bool → {F : Type 0} → Files F → F → Env → Options → Draft → Task → Option Bytes → ℕ → (Bytes → Type 0) → (Bytes → Type 0) → Type 0
DoesBy false files f env o first task input status out err = Does files f env o first task input status out err
DoesBy true files f env o first task input status out err = InputAsked files f env o first input status out err

abbrev pub EndsBy : Bool → {F : Type 0} → Files F → F → Env → Options → Draft → Task → Option Bytes → (Bytes → Type 0) → (Bytes → Type 0) → Stop → Type 0
EndsBy false files f env o first task input out err stop = Ends files f env o first task input out err stop
EndsBy true files f env o first task input out err stop = InputEnds files f env o first input out err stop

-- anything may have been reported
abbrev pub Anything : Bytes → Type 0
Anything = Appends None None

-- the options are rejected, and their problem is reported, as each command reports it
abbrev pub Rejects : Env → Options → Draft → ℕ → (Bytes → Type 0) → (Bytes → Type 0) → Type 0
Rejects env o first status out err =
    (problem : Problem) × RefusesOptions env o first problem × (status ≡ 2) × out [] × err (report_line problem)

-- the same; but where no messages are asked for, nothing that a command reports is, unless that is
-- that the options are rejected
abbrev pub DoesTold : Bool → {F : Type 0} → Files F → F → Env → Options → Draft → Task → Option Bytes → ℕ → (Bytes → Type 0) → (Bytes → Type 0) → Type 0
DoesTold false files f env o first task input status out err = DoesBy o.stdin files f env o first task input status out err
DoesTold true files f env o first task input status out err =
    (DoesBy o.stdin files f env o first task input status out Anything × err []) ⊎ Rejects env o first status out err

abbrev pub EndsTold : Bool → {F : Type 0} → Files F → F → Env → Options → Draft → Task → Option Bytes → (Bytes → Type 0) → (Bytes → Type 0) → Stop → Type 0
EndsTold false files f env o first task input out err stop = EndsBy o.stdin files f env o first task input out err stop
EndsTold true files f env o first task input out err stop =
    (EndsBy o.stdin files f env o first task input out Anything stop × err []) ⊎ EndsAfter [] [] out err stop

-- a run has this status, of what it did up to some contents of both writers: that which it did has
-- this status, and nothing more is written and reported; or it ended early, or what is kept of the
-- output can't be written after it, and the reason is reported, which the output said where it is that
-- this can't be written: it fails by errors of these kinds
pub data Finishes (Done : ℕ → (Bytes → Type 0) → (Bytes → Type 0) → Type 0) (Ended : (Bytes → Type 0) → (Bytes → Type 0) → Stop → Type 0)
    (fails : ErrorKind → Type 0) (status : ℕ) (out now err told : Option Bytes) : Type 0 where
  whole : (written : Option Bytes) → Done status (Appends out written) (Appends err told) → Keeps written now
      → Finishes Done Ended fails status out now err told
  early : (written reported : Option Bytes) (stop : Stop) → Ended (Appends out written) (Appends err reported) stop → Keeps written now
      → status ≡ stop_status stop → Appends reported told (reason stop) → SaidBy fails stop → Finishes Done Ended fails status out now err told
  unwritten : (given : ℕ) (written reported : Option Bytes) (stop : Stop) → Done given (Appends out written) (Appends err reported)
      → IsUnwritten stop → Keeps written now → status ≡ stop_status stop → Appends reported told (reason stop)
      → SaidBy fails stop → Finishes Done Ended fails status out now err told

-- the parser of words had the last word: help or the version was written and nothing reported, or
-- a mistake was reported and nothing written
abbrev pub Shows : ℕ → (Bytes → Type 0) → (Bytes → Type 0) → Type 0
Shows status out err = ((status ≡ 0) × err []) ⊎ ((status ≡ 2) × out [])

-- it ended before a command began: out of memory, or what the parser has to say can't be written
abbrev pub EndsBefore : (Bytes → Type 0) → (Bytes → Type 0) → Stop → Type 0
EndsBefore out err stop = EndsAfter [] [] out err stop

-- all default types, and no choices
abbrev pub types_at_first : Draft
types_at_first = with_defaults all_default_rows (record { definitions = []; choices = [] })

-- a run did what one of the commands does, by some options, with all default types at first, and its
-- time is asked for where these say so; or the parser of the words had the last word, or no command
-- began. Which command and options words stand for isn't said
abbrev pub Runs : {F : Type 0} → Files F → F → Env → Option Bytes → (ErrorKind → Type 0) → ℕ → Bool → (out now err told : Option Bytes) → Type 0
Runs files f env input fails status is_timed out now err told =
    ((task : Task) × (o : Options) × (is_timed ≡ o.stats)
    × Finishes (DoesTold o.no_messages files f env o types_at_first task input) (EndsTold o.no_messages files f env o types_at_first task input) fails status out now err told)
    ⊎ Finishes Shows EndsBefore fails status out now err told
