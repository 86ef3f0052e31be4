-- Whether the rules of two handles say the same, over all paths, as C is told it.
use Rattle.std.specs.Prelude.{◌≡◌, ◌⊎◌, ℕ, Bool, true, false, [], Some, None, Result, Ok, Err, length, string_bytes}
use Rattle.ignore_base.specs.Text.{Bytes}
use Rattle.ignore_every.specs.Verdicts.{IsComparison, said_rule, said_verdict}
use Rattle.ignore_every.specs.declared.said.Comparison.{Comparison}
use Rattle.ignore_every.specs.declared.said.Comparison.TheVariants.{Same, Differ}
use Rattle.ignore_every.specs.declared.said.Counted.{Counted}
use Rattle.ignore_every.specs.declared.said.Counted.TheVariants as C
use Rattle.ignore_every.specs.declared.said.Difference.{Difference}
use Rattle.ignore_every.specs.declared.said.Verdict.{Verdict}
use Rattle.ignore_every.specs.declared.said.Verdict.TheVariants as V
use Rattle.ignore_rules.specs.Rules.{Ruleset}
use Rattle.ignore_kept.specs.Asks.{KeepsRules, number_of, rules_of}
use Rattle.ignore_kept.specs.Stops.{stop_code}
use Rattle.ignore_kept.specs.declared.compared.DifferenceParts.{DifferenceParts}
use Rattle.ignore_kept.specs.declared.kept.Kept.{Kept}
use Rattle.ignore_kept.specs.declared.stopped.Stopped.{Stopped}
use Rattle.ignore_kept.specs.declared.stopped.Stopped.TheVariants.{Memory, Invalid, Misused, TooLarge}

-- which verdicts count as the same: each for itself, or none and whitelist
abbrev pub counted_by : Bool → Counted
counted_by false = C.Verdicts
counted_by true = C.Ignored

-- comparing the rules of two handles gives that they say the same, or a shortest question at which
-- they differ, or says why not
abbrev pub Compares : Kept → Kept → Bool → Result Comparison Stopped → Type 0
Compares old new only_ignored (Ok comparison) =
    (before after : Ruleset) × (rules_of old ≡ Some before) × (rules_of new ≡ Some after)
    × IsComparison (counted_by only_ignored) before.rules after.rules comparison
Compares old new only_ignored (Err Misused) = (rules_of old ≡ None) ⊎ (rules_of new ≡ None)
Compares old new only_ignored (Err Memory) = Unit {0}
Compares old new only_ignored (Err Invalid) = KeepsRules old × KeepsRules new
Compares old new only_ignored (Err TooLarge) = KeepsRules old × KeepsRules new
Compares old new only_ignored (Err other) = ⊥

-- how a verdict is numbered
abbrev pub verdict_code : Verdict → ℕ
verdict_code V.None = 1
verdict_code V.Ignore = 2
verdict_code V.Whitelist = 3

-- how a difference is told: each verdict, the length of the path, the rule by which each is said, 0
-- where there is none, and whether the path is a directory's
abbrev pub difference_parts : Difference → DifferenceParts
difference_parts d =
    record {
      before = verdict_code (said_verdict d.old);
      after = verdict_code (said_verdict d.new);
      path = length (string_bytes d.question.path);
      before_rule = number_of (said_rule d.old);
      after_rule = number_of (said_rule d.new);
      is_dir = d.question.is_dir;
    }

-- where there is no difference
abbrev pub no_difference : DifferenceParts
no_difference = record { before = 0; after = 0; path = 0; before_rule = 0; after_rule = 0; is_dir = false }

-- that two lists say the same is 0, and that they differ 1
abbrev pub code_given : Result Comparison Stopped → ℕ
code_given (Ok Same) = 0
code_given (Ok (Differ d)) = 1
code_given (Err stopped) = stop_code stopped

abbrev pub difference_given : Result Comparison Stopped → DifferenceParts
difference_given (Ok Same) = no_difference
difference_given (Ok (Differ d)) = difference_parts d
difference_given (Err stopped) = no_difference

abbrev pub text_given : Result Comparison Stopped → Bytes
text_given (Ok Same) = []
text_given (Ok (Differ d)) = string_bytes d.question.path
text_given (Err stopped) = []

-- a comparison is told so
abbrev pub TellsComparison : Result Comparison Stopped → ℕ → DifferenceParts → Bytes → Type 0
TellsComparison given code difference text =
    (code ≡ code_given given) × (difference ≡ difference_given given) × (text ≡ text_given given)

-- comparing the rules of two handles gives this number, this difference and this path
abbrev pub Compared : Kept → Kept → Bool → ℕ → DifferenceParts → Bytes → Type 0
Compared old new only_ignored code difference text =
    (given : Result Comparison Stopped) × Compares old new only_ignored given × TellsComparison given code difference text
