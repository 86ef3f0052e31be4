-- What C tells a builder besides settings: globs of a command line, file types, files of rules.
use Rattle.std.specs.Prelude.{◌≡◌, ◌⊎◌, ℕ, true, false, List, [], Option, Some, None, Result, Ok, Err, option_map}
use Rattle.std.specs.Str.{IsUtf8}
use Rattle.ignore.specs.Asked.{AddsIgnore}
use Rattle.ignore.specs.Builder.{with_overrides, with_types}
use Rattle.ignore_base.specs.Problem.{Problem, invalid_definition, problem_of}
use Rattle.ignore_base.specs.Text.{Bytes, Path}
use Rattle.ignore_files.specs.Answers.{tree_of}
use Rattle.ignore_files.specs.Memory.{Memory}
use Rattle.ignore_rules.specs.RuleFile.{is_memory}
use Rattle.ignore_rules.specs.Rules.{AddsLine, Building, Refuses, begun, built, with_case_insensitive, with_unclosed_class}
use Rattle.ignore_types.specs.Building.{IsBuilt, IsRefusedWith}
use Rattle.ignore_types.specs.Defaults.{Row, with_defaults}
use Rattle.ignore_types.specs.TypeMatch.{Matcher}
use Rattle.ignore_types.specs.Types.{Becomes, Request, after_request, one_glob, request_of, with_chosen, without}
use Rattle.ignore_kept.specs.Kinds.{setup_in, tree_in}
use Rattle.ignore_kept.specs.Lines.{TellsText}
use Rattle.ignore_kept.specs.Setups.{keeping}
use Rattle.ignore_kept.specs.Stops.{ended_code, stop_code}
use Rattle.ignore_kept.specs.declared.kept.Kept.{Kept}
use Rattle.ignore_kept.specs.declared.setup.Setup.{Setup}
use Rattle.ignore_kept.specs.declared.stopped.Stopped.{Stopped}
use Rattle.ignore_kept.specs.declared.stopped.Stopped.TheVariants.{NotUtf8, Memory as Full, Limit, Invalid, Misused, Tree}
use Rattle.ignore_kept.specs.declared.wish.Wish.{Wish}
use Rattle.ignore_kept.specs.declared.wish.Wish.TheVariants as wish

-- the settings without a problem
abbrev pub well : Setup → Setup
well setup = record setup { problem = None }

-- a request leads from settings to settings: the definitions of file types after it
abbrev pub Asks : Request → Setup → Setup → Type 0
Asks request old new =
    Becomes old.types (after_request request old.types.definitions) new.types × (new ≡ record (well old) { types = new.types })

-- what a builder is told leads from settings to settings, where it is as it should be
abbrev pub Step : Wish → Setup → Setup → Type 0
Step (wish.Overrides root both_cases) old new =
    new ≡ record (well old) { globs = Some (with_case_insensitive (with_unclosed_class (begun root.now) false) both_cases) }
Step (wish.Glob glob) old new =
    (before after : Building) × (old.globs ≡ Some before) × AddsLine before None glob.now after
    × (new ≡ record (well old) { globs = Some after })
Step wish.SetOverrides old new =
    (globs : Building) × (old.globs ≡ Some globs) × (new ≡ record (well old) { options = with_overrides old.options (built globs) })
Step (wish.TypeGlob name glob) old new = Asks (one_glob name.now glob.now) old new
Step (wish.TypeDef text) old new = Asks (request_of text.now) old new
Step (wish.Select name) old new = new ≡ record (well old) { types = with_chosen false name.now old.types }
Step (wish.Negate name) old new = new ≡ record (well old) { types = with_chosen true name.now old.types }
Step (wish.Clear name) old new =
    new ≡ record (well old) { types = record { definitions = without name.now old.types.definitions; choices = old.types.choices } }
Step wish.SetTypes old new =
    (types : Matcher) × IsBuilt old.types types × (new ≡ record (well old) { options = with_types old.options types })

-- a request isn't allowed, and that is the problem
abbrev pub IsDenied : Request → Setup → Problem → Type 0
IsDenied request old problem = (problem ≡ invalid_definition) × (after_request request old.types.definitions ≡ None)

-- what is wrong with what a builder is told
abbrev pub Faulty : Wish → Setup → Problem → Type 0
Faulty (wish.Overrides root both_cases) old problem = ⊥
Faulty (wish.Glob glob) old problem = (globs : Building) × (old.globs ≡ Some globs) × Refuses globs.options glob.now problem
Faulty wish.SetOverrides old problem = ⊥
Faulty (wish.TypeGlob name glob) old problem = IsDenied (one_glob name.now glob.now) old problem
Faulty (wish.TypeDef text) old problem = IsDenied (request_of text.now) old problem
Faulty (wish.Select name) old problem = ⊥
Faulty (wish.Negate name) old problem = ⊥
Faulty (wish.Clear name) old problem = ⊥
Faulty wish.SetTypes old problem = IsRefusedWith old.types problem

-- a text that is told isn't UTF-8
abbrev pub IsNoText : Wish → Type 0
IsNoText (wish.Overrides root both_cases) = ¬ (IsUtf8 root.now)
IsNoText (wish.Glob glob) = ¬ (IsUtf8 glob.now)
IsNoText wish.SetOverrides = ⊥
IsNoText (wish.TypeGlob name glob) = ¬ (IsUtf8 name.now) ⊎ ¬ (IsUtf8 glob.now)
IsNoText (wish.TypeDef text) = ¬ (IsUtf8 text.now)
IsNoText (wish.Select name) = ¬ (IsUtf8 name.now)
IsNoText (wish.Negate name) = ¬ (IsUtf8 name.now)
IsNoText (wish.Clear name) = ¬ (IsUtf8 name.now)
IsNoText wish.SetTypes = ⊥

-- globs are told, or are to count, and weren't begun
abbrev pub IsEarly : Wish → Setup → Type 0
IsEarly (wish.Overrides root both_cases) old = ⊥
IsEarly (wish.Glob glob) old = old.globs ≡ None
IsEarly wish.SetOverrides old = old.globs ≡ None
IsEarly (wish.TypeGlob name glob) old = ⊥
IsEarly (wish.TypeDef text) old = ⊥
IsEarly (wish.Select name) old = ⊥
IsEarly (wish.Negate name) old = ⊥
IsEarly (wish.Clear name) old = ⊥
IsEarly wish.SetTypes old = ⊥

-- the settings are as before, but for this problem
abbrev pub Ails : Problem → Setup → Setup → Type 0
Ails problem old new = (option_map problem_of new.problem ≡ Some problem) × (new ≡ record old { problem = new.problem })

-- a problem is kept, and the call refused; or it is that memory ran out, and nothing is changed
abbrev pub Blames : Problem → Setup → Result (Unit {0}) Stopped → Setup → Type 0
Blames problem old (Err Invalid) new = (is_memory problem ≡ false) × Ails problem old new
Blames problem old (Err Full) new = new ≡ old
Blames problem old (Ok done) new = ⊥
Blames problem old (Err other) new = ⊥

-- telling leads from settings to settings: done; or refused, and the problem kept; or nothing
-- changed
abbrev pub Takes : Wish → Setup → Result (Unit {0}) Stopped → Setup → Type 0
Takes wish old (Ok done) new = Step wish old new
Takes wish old (Err Invalid) new = (problem : Problem) × Faulty wish old problem × Ails problem old new
Takes wish old (Err NotUtf8) new = (new ≡ old) × IsNoText wish
Takes wish old (Err Misused) new = (new ≡ old) × IsEarly wish old
Takes wish old (Err Full) new = new ≡ old
Takes wish old (Err other) new = ⊥

-- the same of a handle, which may keep no settings
abbrev pub WishesOf : Option Setup → Wish → Kept → Result (Unit {0}) Stopped → Kept → Type 0
WishesOf None wish old given new = (given ≡ Err Misused) × (new ≡ old)
WishesOf (Some before) wish old given new = (after : Setup) × (new ≡ keeping after) × Takes wish before given after

abbrev pub Wishes : Wish → Kept → Result (Unit {0}) Stopped → Kept → Type 0
Wishes wish old given new = WishesOf (setup_in old) wish old given new

-- the same, by the number that C is told
abbrev pub Wished : Wish → Kept → ℕ → Kept → Type 0
Wished wish old code new =
    (given : Result (Unit {0}) Stopped) × Wishes wish old given new × (code ≡ ended_code given)

-- adding the types that are there by default, which have these rows, leads from what a handle kept
-- to what it keeps: done, or nothing changed
abbrev pub AddsDefaults : List Row → Kept → Result (Unit {0}) Stopped → Kept → Type 0
AddsDefaults rows old (Ok done) new =
    (before : Setup) × (setup_in old ≡ Some before) × (new ≡ keeping (record (well before) { types = with_defaults rows before.types }))
AddsDefaults rows old (Err Misused) new = (new ≡ old) × (setup_in old ≡ None)
AddsDefaults rows old (Err Full) new = new ≡ old
AddsDefaults rows old (Err other) new = ⊥

-- the same, by the number that C is told
abbrev pub DefaultsAdded : List Row → Kept → ℕ → Kept → Type 0
DefaultsAdded rows old code new =
    (given : Result (Unit {0}) Stopped) × AddsDefaults rows old given new × (code ≡ ended_code given)

-- a file of rules of a tree leads from settings to settings: its rules added, and what is wrong with
-- it kept
abbrev pub AddsRules : Memory → Path → Setup → Result (Unit {0}) Stopped → Setup → Type 0
AddsRules tree path old (Ok done) new =
    AddsIgnore (tree_of tree) old.env path old.options new.options None × (new ≡ record (well old) { options = new.options })
AddsRules tree path old (Err Invalid) new =
    (problem : Problem) × AddsIgnore (tree_of tree) old.env path old.options new.options (Some problem)
    × Ails problem (record old { options = new.options }) new
AddsRules tree path old (Err NotUtf8) new = (new ≡ old) × ¬ (IsUtf8 path)
AddsRules tree path old (Err Full) new = new ≡ old
AddsRules tree path old (Err other) new = ⊥

-- the same of two handles, which may keep neither settings nor a tree
abbrev pub AddsOf : Option Setup → Option Memory → Path → Kept → Result (Unit {0}) Stopped → Kept → Type 0
AddsOf None tree path old given new = (given ≡ Err Misused) × (new ≡ old)
AddsOf (Some before) None path old given new = (given ≡ Err Misused) × (new ≡ old)
AddsOf (Some before) (Some tree) path old given new = (after : Setup) × (new ≡ keeping after) × AddsRules tree path before given after

abbrev pub Adds : Kept → Kept → Path → ℕ → Kept → Type 0
Adds old tree path code new =
    (given : Result (Unit {0}) Stopped) × AddsOf (setup_in old) (tree_in tree) path old given new × (code ≡ ended_code given)

-- asking what is wrong gives this number and this text: 0 and the text of the problem, or out of
-- memory; 1 where there is none
abbrev pub TellsOf : Option Setup → ℕ → Bytes → Type 0
TellsOf None code text = (code ≡ stop_code Misused) × (text ≡ [])
TellsOf (Some setup) code text = TellsText (option_map problem_of setup.problem) code text
