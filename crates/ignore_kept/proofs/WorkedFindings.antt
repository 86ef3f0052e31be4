-- Worked: how dead rules, the rules that overrule them and differences are told.
use Rattle.std.proofs.Common.{◌≡◌, ◌∷◌, [], true, false, codes, None, Ok, Err, refl}
use Rattle.ignore_every.specs.declared.error.Error.TheVariants as every
use Rattle.ignore_every.specs.declared.said.Comparison.TheVariants.{Same}
use Rattle.ignore_every.specs.declared.said.Counted.TheVariants as counted
use Rattle.ignore_every.specs.declared.said.Verdict.TheVariants as verdict
use Rattle.ignore_kept.specs.Comparing.{code_given, counted_by, difference_given, no_difference, verdict_code}
use Rattle.ignore_kept.specs.Findings.{FindingParts, alone, is_dead, overruled_parts, texts_of, told_as}
use Rattle.ignore_kept.specs.Judging.{search_stop}
use Rattle.ignore_kept.specs.Stops.{stop_code}
use Rattle.ignore_kept.specs.declared.stopped.Stopped.TheVariants.{TooLarge}

-- a rule that the rules 3 and 5 overrule is told so, with their number; one that applies to nothing has
-- another kind
pub overruled : (overruled_parts (3 ∷ 5 ∷ []) ≡ record (alone 1) { overruling = 2 }) × (overruled_parts [] ≡ alone 2)
overruled = (refl, refl)

-- the path and the folder of an example
abbrev example : FindingParts
example = record (alone 3) { path = codes "out/keep"; folder = codes "out"; folder_rule = 1; is_dir = true }

-- with the index of their rule they are told by their lengths, and their texts, one after the other
pub told : (told_as 7 example
    ≡ record { kind = 3; rule = 7; overruling = 0; path = 8; folder = 3; folder_rule = 1; is_dir = true })
    × (texts_of example ≡ codes "out/keepout")
told = (refl, refl)

-- where there is no rule, none is dead
pub not_dead : is_dead None ≡ false
not_dead = refl

-- two lists that say the same are told by 0, and too large a search by 17; neither has a difference
pub same : (code_given (Ok Same) ≡ 0) × (code_given (Err TooLarge) ≡ 17) × (difference_given (Ok Same) ≡ no_difference)
same = (refl, refl, refl)

-- why a search has no result
pub reasons : (stop_code (search_stop every.TooLarge) ≡ 17) × (stop_code (search_stop every.Rejected) ≡ 7)
    × (stop_code (search_stop every.Memory) ≡ 5)
reasons = (refl, refl, refl)

-- verdicts have the numbers of matches, and which of them count
pub verdicts : (verdict_code verdict.None ≡ 1) × (verdict_code verdict.Ignore ≡ 2) × (verdict_code verdict.Whitelist ≡ 3)
    × (counted_by true ≡ counted.Ignored)
verdicts = (refl, refl, refl, refl)
