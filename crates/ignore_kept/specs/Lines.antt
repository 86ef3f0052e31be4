-- Rules that C adds lines to.
use Rattle.std.specs.Prelude.{◌≡◌, ◌⊎◌, ℕ, [], ◌∷◌, Option, Some, None, Result, Ok, Err, option_map}
use Rattle.std.specs.Str.{IsUtf8}
use Rattle.ignore_base.specs.Text.{Bytes, Path}
use Rattle.ignore_base.specs.Errors.{problem_text}
use Rattle.ignore_base.specs.Problem.{Problem, problem_of}
use Rattle.ignore_files.specs.declared.types.Contents.{Contents}
use Rattle.ignore_files.specs.declared.types.Refusal.{Refusal}
use Rattle.ignore_files.specs.declared.types.Refusal.TheVariants.{Memory as NoMemory}
use Rattle.ignore_rules.specs.RuleFile.{AddsAnswer}
use Rattle.ignore_rules.specs.Rules.{AddsLine, Building, Refuses, begun, built, with_options}
use Rattle.ignore_kept.specs.Stops.{stop_code}
use Rattle.ignore_kept.specs.declared.kept.Kept.{Kept}
use Rattle.ignore_kept.specs.declared.kept.Lines.{Lines}
use Rattle.ignore_kept.specs.declared.kept.Kept.TheVariants as keeps
use Rattle.ignore_kept.specs.declared.rule.RuleOptions.{RuleOptions}
use Rattle.ignore_kept.specs.declared.stopped.Stopped.{Stopped}
use Rattle.ignore_kept.specs.declared.stopped.Stopped.TheVariants.{NotUtf8, Memory, Invalid, Misused}

-- all of a text, or that memory ran out
abbrev pub IsText : Bytes → Result Contents Refusal → Type 0
IsText text (Ok contents) = contents ≡ record { bytes = text; fault = None }
IsText text (Err refusal) = refusal ≡ NoMemory

-- the builder that a handle keeps, if it keeps one
abbrev pub building_of : Kept → Option Building
building_of (keeps.Lines lines) = Some lines.builder
building_of (keeps.Rules rules) = None
building_of (keeps.Tree tree) = None
building_of (keeps.Setup setup) = None
building_of (keeps.Matcher matcher) = None
building_of (keeps.Walk walk) = None
building_of (keeps.Guide guided) = None
building_of (keeps.Findings found) = None
building_of keeps.Lent = None

-- what is wrong with what was added last, if anything
abbrev pub problem_in : Kept → Option Problem
problem_in (keeps.Lines lines) = option_map problem_of lines.problem
problem_in (keeps.Rules rules) = None
problem_in (keeps.Tree tree) = None
problem_in (keeps.Setup setup) = None
problem_in (keeps.Matcher matcher) = None
problem_in (keeps.Walk walk) = None
problem_in (keeps.Guide guided) = None
problem_in (keeps.Findings found) = None
problem_in keeps.Lent = None

-- the builder of which later lines are read by these options
abbrev pub read_with : Building → RuleOptions → Building
read_with builder options =
    with_options builder (record {
      glob = record { case_insensitive = options.case_insensitive; allow_unclosed_class = options.allow_unclosed_class };
      git_trailing_spaces = options.git_trailing_spaces;
    })

-- the builder of a root and options, to which no line was added
abbrev pub begun_with : Path → RuleOptions → Building
begun_with root options = read_with (begun root) options

-- beginning rules gives what a handle keeps, or says why it doesn't
abbrev pub Begins : Bytes → RuleOptions → Result Kept Stopped → Type 0
Begins root options (Ok kept) = (building_of kept ≡ Some (begun_with root options)) × (problem_in kept ≡ None)
Begins root options (Err NotUtf8) = ¬ (IsUtf8 root)
Begins root options (Err Memory) = Unit {0}
Begins root options (Err other) = ⊥

-- setting options leads from what a handle kept to what it keeps
abbrev pub SetsOptions : Kept → RuleOptions → Result (Unit {0}) Stopped → Kept → Type 0
SetsOptions old options (Ok done) new =
    (before : Building) × (building_of old ≡ Some before) × (building_of new ≡ Some (read_with before options)) × (problem_in new ≡ problem_in old)
SetsOptions old options (Err Misused) new = (new ≡ old) × (building_of old ≡ None)
SetsOptions old options (Err other) new = ⊥

-- the source of a line, as C gives it: none where it is empty
abbrev pub source_of : Bytes → Option Path
source_of [] = None
source_of (b ∷ bytes) = Some (b ∷ bytes)

-- adding a line of a source leads from lines to lines: the line added, or refused and its problem
-- kept, or nothing changed
abbrev pub Pushes : Lines → Option Path → Bytes → Result (Unit {0}) Stopped → Lines → Type 0
Pushes old from line (Ok done) new = AddsLine old.builder from line new.builder × (option_map problem_of new.problem ≡ None)
Pushes old from line (Err Invalid) new =
    (problem : Problem) × (new.builder ≡ old.builder) × Refuses old.builder.options line problem × (option_map problem_of new.problem ≡ Some problem)
Pushes old from line (Err Memory) new = new ≡ old
Pushes old from line (Err other) new = ⊥

-- adding a line leads from what a handle kept to what it keeps: the line added, or refused and its
-- problem kept, or nothing changed
abbrev pub LineAdds : Kept → Bytes → Bytes → Result (Unit {0}) Stopped → Kept → Type 0
LineAdds old from line (Ok done) new =
    (before after : Building) × (building_of old ≡ Some before) × (building_of new ≡ Some after)
    × AddsLine before (source_of from) line after × (problem_in new ≡ None)
LineAdds old from line (Err Invalid) new =
    (before : Building) × (problem : Problem) × (building_of old ≡ Some before) × (building_of new ≡ Some before)
    × Refuses before.options line problem × (problem_in new ≡ Some problem)
LineAdds old from line (Err NotUtf8) new = (new ≡ old) × (¬ (IsUtf8 from) ⊎ ¬ (IsUtf8 line))
LineAdds old from line (Err Memory) new = new ≡ old
LineAdds old from line (Err Misused) new = (new ≡ old) × (building_of old ≡ None)
LineAdds old from line (Err other) new = ⊥

-- the same for the lines of a text that stands for a file: `Invalid` where some have a problem, and
-- then the others are added
abbrev pub FileAdds : Kept → Bytes → Bytes → Result (Unit {0}) Stopped → Kept → Type 0
FileAdds old path text (Ok done) new =
    (before after : Building) × (building_of old ≡ Some before) × (building_of new ≡ Some after)
    × AddsAnswer path (Ok (record { bytes = text; fault = None })) before after None × (problem_in new ≡ None)
FileAdds old path text (Err Invalid) new =
    (before after : Building) × (problem : Problem) × (building_of old ≡ Some before) × (building_of new ≡ Some after)
    × AddsAnswer path (Ok (record { bytes = text; fault = None })) before after (Some problem) × (problem_in new ≡ Some problem)
FileAdds old path text (Err NotUtf8) new = (new ≡ old) × ¬ (IsUtf8 path)
FileAdds old path text (Err Memory) new = new ≡ old
FileAdds old path text (Err Misused) new = (new ≡ old) × (building_of old ≡ None)
FileAdds old path text (Err other) new = ⊥

-- building makes the matcher of the lines, or does nothing
abbrev pub Builds : Kept → Result (Unit {0}) Stopped → Kept → Type 0
Builds old (Ok done) new = (before : Building) × (building_of old ≡ Some before) × (new ≡ keeps.Rules (built before))
Builds old (Err Misused) new = (new ≡ old) × (building_of old ≡ None)
Builds old (Err other) new = ⊥

-- asking what is wrong with what was added last gives this number and this text: 0 and the text of
-- the problem (or out of memory), or 1 where there is none
abbrev pub TellsText : Option Problem → ℕ → Bytes → Type 0
TellsText None code text = (code ≡ 1) × (text ≡ [])
TellsText (Some problem) code text = ((code ≡ 0) × (text ≡ problem_text problem)) ⊎ ((code ≡ stop_code Memory) × (text ≡ []))

-- the same of a handle, which may keep no lines
abbrev pub TellsProblem : Kept → ℕ → Bytes → Type 0
TellsProblem (keeps.Lines lines) code text = TellsText (option_map problem_of lines.problem) code text
TellsProblem (keeps.Rules rules) code text = (code ≡ stop_code Misused) × (text ≡ [])
TellsProblem (keeps.Tree tree) code text = (code ≡ stop_code Misused) × (text ≡ [])
TellsProblem (keeps.Setup setup) code text = (code ≡ stop_code Misused) × (text ≡ [])
TellsProblem (keeps.Matcher matcher) code text = (code ≡ stop_code Misused) × (text ≡ [])
TellsProblem (keeps.Guide guided) code text = (code ≡ stop_code Misused) × (text ≡ [])
TellsProblem (keeps.Findings found) code text = (code ≡ stop_code Misused) × (text ≡ [])
TellsProblem (keeps.Walk walk) code text = (code ≡ stop_code Misused) × (text ≡ [])
TellsProblem keeps.Lent code text = (code ≡ stop_code Misused) × (text ≡ [])
