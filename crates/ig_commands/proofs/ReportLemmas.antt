-- What is reported and counted of the files that are named.
use Rattle.std.proofs.Common.{◌≡◌, ◌∙◌, ℕ, ◌+◌, ◌++◌, Bool, Bor, List, Option, None, Some, map, option_map, ap, subst}
use Rattle.std.specs.Io.KnownBytes.{Appends}
use Rattle.std.specs.List.{flat_map}
use Rattle.std.specs.Option.{option_copied}
use Rattle.commands.proofs.LineLemmas.{appends_on}
use Rattle.ignore_base.specs.Problem.{problem_of}
use Rattle.ignore_base.specs.declared.error.Error.{Error}
use Rattle.ig_commands.specs.Counts.{capped, counted, stats_line, status_of}
use Rattle.ig_commands.specs.Reports.{is_known, report_of}

-- the reports of the same errors
pub reported_as : (es fs : List (Option Error)) (a b : Option (List ℕ)) → es ≡ fs
    → Appends a b (flat_map report_of (map (option_map problem_of) es)) → Appends a b (flat_map report_of (map (option_map problem_of) fs))
reported_as es fs a b same h = subst (λ (xs : List (Option Error)). Appends a b (flat_map report_of (map (option_map problem_of) xs))) same h

-- a count with those of the files that are named
pub wrong_as : (es fs : List (Option Error)) (all more reported wrong : ℕ) → es ≡ fs → all ≡ capped (more + reported)
    → reported ≡ counted 0 (map is_known (map (option_map problem_of) es)) → more ≡ wrong
    → all ≡ capped (wrong + counted 0 (map is_known (map (option_map problem_of) fs)))
wrong_as es fs all more reported wrong same sum files items =
    sum
    ∙ (ap (λ n. capped (more + n)) (files
    ∙ ap (λ (xs : List (Option Error)). counted 0 (map is_known (map (option_map problem_of) xs))) same)
    ∙ ap (λ n. capped (n + counted 0 (map is_known (map (option_map problem_of) fs)))) items)

-- the status of counts
pub status_as : (status all found wrong listed : ℕ) → status ≡ status_of all found → all ≡ wrong → found ≡ listed
    → status ≡ status_of wrong listed
status_as status all found wrong listed is sum there = is ∙ (ap (λ n. status_of n found) sum ∙ ap (status_of wrong) there)

-- the counts are reported after the rest
pub counts_told : (asked : Bool) (told : List ℕ) (all found wrong listed : ℕ) (a b c : Option (List ℕ)) → Appends a b told
    → Appends b c (stats_line asked all found) → all ≡ wrong → found ≡ listed → Appends a c (told ++ stats_line asked wrong listed)
counts_told asked told all found wrong listed a b c h k sum there =
    appends_on a b c told (stats_line asked wrong listed) h
    (subst (λ n. Appends b c (stats_line asked wrong n)) there (subst (λ n. Appends b c (stats_line asked n found)) sum k))

-- the problem of an error that is lent
pub lent_problem : (r : Option (Bor Error)) (o : Option Error) → option_copied r ≡ o
    → option_map (λ (e : Bor Error). problem_of e.now) r ≡ option_map problem_of o
lent_problem None o is = ap (option_map problem_of) is
lent_problem (Some e) o is = ap (option_map problem_of) is
