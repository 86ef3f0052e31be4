-- What `same` writes: whether two files of rules say the same of every path.
use Rattle.std.specs.Prelude.{◌≡◌, ◌≢◌, ◌⊎◌, ◌||◌, ◌==◌, ℕ, Bool, true, false, not, List, [], ◌∷◌, ◌++◌, codes, length, Option, None, Some, IfSome, option_map, unwrap_or}
use Rattle.std.specs.Prelude.{if◌then◌else◌}
use Rattle.std.specs.List.{flat_map}
use Rattle.ignore_base.specs.Problem.{Problem, problem_of, several, at_line, at_path, at_depth, loop, io, glob, unrecognized, invalid_definition}
use Rattle.ignore_base.specs.Problem.{memory}
use Rattle.ignore_base.specs.Text.{Bytes, Path}
use Rattle.ignore_every.specs.Differences.{AreDifferences}
use Rattle.ignore_every.specs.Verdicts.{said_verdict}
use Rattle.ignore_every.specs.declared.error.Error.TheVariants as refused
use Rattle.ignore_every.specs.declared.error.Error.{Error as Refused}
use Rattle.ignore_every.specs.declared.said.Difference.{Difference}
use Rattle.ignore_every.specs.declared.said.Said.{Said}
use Rattle.ignore_every.specs.declared.said.Verdict.{Verdict}
use Rattle.ignore_every.specs.declared.said.Verdict.TheVariants as verdict
use Rattle.ignore_files.specs.Gives.{IsHonest}
use Rattle.ignore_files.specs.Tree.{Tree}
use Rattle.ignore_files.specs.declared.files.Files.{Ghosts as Files}
use Rattle.ignore_rules.specs.Rules.{Rule, Ruleset}
use Rattle.ig_options.specs.declared.options.Options.{Options}
use Rattle.ig_every.specs.Compared.{rule_in, shown}
use Rattle.ig_every.specs.declared.reading.RulesRead.{RulesRead}
use Rattle.ig_commands.specs.Form.{after_path, before_path, no_rule, rule_fields}
use Rattle.ig_commands.specs.Reports.{is_known, report_of, to_report}
use Rattle.ig_commands.specs.Sides.{AreRead, given_at, takes_input, wanted_by}
use Rattle.ig_commands.specs.Stops.{EndsAfter, EndsReading}
use Rattle.ig_commands.specs.declared.sides.Sides.{Sides}
use Rattle.ig_commands.specs.declared.stop.Stop.{Stop}

-- a problem is one of the file system
abbrev pub is_fault : Problem → Bool
is_fault (several ps) = false
is_fault (at_line line p) = false
is_fault (at_path path p) = false
is_fault (at_depth depth p) = false
is_fault (loop ancestor child) = false
is_fault (io fault) = true
is_fault (glob pattern err) = false
is_fault (unrecognized name) = false
is_fault invalid_definition = false
is_fault memory = false

-- a problem is that a file can't be opened, and none of its lines
abbrev pub is_unopened : Problem → Bool
is_unopened (several ps) = false
is_unopened (at_line line p) = false
is_unopened (at_path path p) = is_fault p
is_unopened (at_depth depth p) = false
is_unopened (loop ancestor child) = false
is_unopened (io fault) = false
is_unopened (glob pattern err) = false
is_unopened (unrecognized name) = false
is_unopened invalid_definition = false
is_unopened memory = false

-- what is wrong is that
abbrev pub is_shut : Option Problem → Bool
is_shut None = false
is_shut (Some p) = is_unopened p

-- a file can't be read at all
abbrev pub is_unread : RulesRead → Bool
is_unread r = is_shut (option_map problem_of r.problem)

-- what is reported of a file: that it can't be read, whatever is asked for; its invalid lines not with
-- `--no-ignore-messages`
abbrev pub side_told : Options → RulesRead → Option Problem
side_told o r = if is_unread r then option_map problem_of r.problem else to_report o (option_map problem_of r.problem)

-- what is reported of both files, and whether anything is
abbrev pub told : Options → Sides → Bytes
told o sides = report_of (side_told o sides.old) ++ report_of (side_told o sides.new)

abbrev pub is_told : Options → Sides → Bool
is_told o sides = is_known (side_told o sides.old) || is_known (side_told o sides.new)

-- the word for a verdict
abbrev pub verdict_word : Verdict → Bytes
verdict_word verdict.None = codes "none"
verdict_word verdict.Ignore = codes "ignore"
verdict_word verdict.Whitelist = codes "whitelist"

-- the three fields of a rule; without one they are empty
abbrev pub fields_of : Option Path → Bool → Option Rule → Bytes
fields_of base null None = no_rule null
fields_of base null (Some r) = rule_fields base null (unwrap_or r.from []) r.line r.original

-- a path after what a file says of it: the verdict, and the rule by which it is said
abbrev pub side : Option Path → Bool → Ruleset → Said → Path → Bytes
side base null g said path = verdict_word (said_verdict said) ++ (before_path null ++ (fields_of base null (rule_in g.rules said) ++ after_path null path))

-- a path at which two files differ, after what each says of it; with `-q` nothing is written
abbrev pub difference_text : Options → Sides → Difference → Bytes
difference_text o sides d =
    if o.quiet then []
    else side None o.null sides.old.rules d.old (shown d.question) ++ side None o.null sides.new.rules d.new (shown d.question)

-- the same of several paths
abbrev pub differences_text : Options → Sides → List Difference → Bytes
differences_text o sides found = flat_map (difference_text o sides) found

-- whether two files differ, which do so at these questions
abbrev pub do_differ : List Difference → Bool
do_differ found = not (length found == 0)

-- the status: 2 where something was reported, else 1 where the files differ, and else 0
abbrev pub status_by : Bool → Bool → ℕ
status_by reported differ = if reported then 2 else if differ then 1 else 0

-- why two files can't be compared
abbrev pub refused_text : Refused → Bytes
refused_text refused.TooLarge = codes "too many states to compare them"
refused_text refused.Rejected = codes "the comparison isn't accepted by its check"
refused_text refused.Memory = []

-- the line that reports it
abbrev pub refused_line : Options → Refused → Bytes
refused_line o reason =
    codes "ig: " ++ (given_at o 0 ++ (codes ", " ++ (given_at o 1 ++ (codes ": " ++ (refused_text reason ++ 10 ∷ [])))))

-- two files were compared: what is wrong with them was reported, and nothing more was done where one
-- can't be read; or what is so of them over all paths was written; or it was reported why they can't be
-- compared
abbrev pub Compares : Options → Option ℕ → Sides → ℕ → (Bytes → Type 0) → (Bytes → Type 0) → Type 0
Compares o most sides status out err =
    (((is_unread sides.old || is_unread sides.new) ≡ true) × (status ≡ 2) × out [] × err (told o sides))
    ⊎ (((is_unread sides.old || is_unread sides.new) ≡ false)
    × (((found : List Difference) × AreDifferences (wanted_by o most) sides.old.rules.rules sides.new.rules.rules found
    × (status ≡ status_by (is_told o sides) (do_differ found)) × out (differences_text o sides found) × err (told o sides))
    ⊎ ((reason : Refused) × (reason ≢ refused.Memory) × (status ≡ 2) × out [] × err (told o sides ++ refused_line o reason))))

-- it ended early after what is wrong with both was reported, and after some of what they differ at was
-- written, if anything
abbrev pub EndsComparing : Options → Option ℕ → Sides → (Bytes → Type 0) → (Bytes → Type 0) → Stop → Type 0
EndsComparing o most sides out err stop =
    EndsAfter [] (told o sides) out err stop
    ⊎ ((found : List Difference) × (done : List Difference) × (rest : List Difference) × (found ≡ done ++ rest)
    × AreDifferences (wanted_by o most) sides.old.rules.rules sides.new.rules.rules found
    × EndsAfter (differences_text o sides done) (told o sides) out err stop)

-- these are the bytes of standard input, where one of the files is that
abbrev pub IsInput : Options → Option Bytes → Bytes → Type 0
IsInput o input bytes = takes_input o ≡ true → IfSome input (λ all. bytes ≡ all)

-- the two files were compared that the options name, as they are in each tree that the files are
-- consistent with
abbrev pub SameAsked : {F : Type 0} → Files F → F → Options → Option ℕ → Option Bytes → ℕ → (Bytes → Type 0) → (Bytes → Type 0) → Type 0
SameAsked files f o most input status out err =
    (bytes : Bytes) × IsInput o input bytes × (sides : Sides) × Compares o most sides status out err
    × ((tree : Tree) → IsHonest files f tree → AreRead tree bytes o sides)

-- it ended early: before the files were read, or after that
abbrev pub SameEnds : {F : Type 0} → Files F → F → Options → Option ℕ → Option Bytes → (Bytes → Type 0) → (Bytes → Type 0) → Stop → Type 0
SameEnds files f o most input out err stop =
    EndsReading [] [] out err stop
    ⊎ ((bytes : Bytes) × IsInput o input bytes × (sides : Sides) × EndsComparing o most sides out err stop
    × ((tree : Tree) → IsHonest files f tree → AreRead tree bytes o sides))
