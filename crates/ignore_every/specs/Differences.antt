-- Questions at which two lists differ, by pairs of rules.
use Rattle.std.specs.Prelude.{◌≡◌, ◌≤◌, ◌<◌, ◌⊎◌, ℕ, List, [], Some, slice_get, length}
use Rattle.ignore_rules.specs.Rules.{Rule}
use Rattle.ignore_every.specs.declared.lists.Lists.{Lists}
use Rattle.ignore_every.specs.declared.said.Counted.{Counted}
use Rattle.ignore_every.specs.declared.said.Difference.{Difference}
use Rattle.ignore_every.specs.declared.said.Wanted.{Wanted}
use Rattle.ignore_every.specs.Verdicts.{AreDifferentAt, AreFirstDifferentAt, SaySame, said_rule}

-- both differences are by the same pair of rules
abbrev pub IsSamePair : Difference → Difference → Type 0
IsSamePair d e = (said_rule d.old ≡ said_rule e.old) × (said_rule d.new ≡ said_rule e.new)

-- the difference is by another pair of rules than each of these
abbrev pub IsApart : List Difference → Difference → Type 0
IsApart found d = (i : ℕ) (e : Difference) → slice_get found i ≡ Some e → IsSamePair e d → ⊥

-- at each of these questions the lists differ, no two are by the same pair of rules, and there are at
-- most so many
pub record AreDifferent (counted : Counted) (old new : List Rule) (most : ℕ) (found : List Difference) : Type 0 where
  pub each : (i : ℕ) (d : Difference) → slice_get found i ≡ Some d → AreDifferentAt counted old new d
  pub apart : (i j : ℕ) (d e : Difference) → i < j → slice_get found i ≡ Some d → slice_get found j ≡ Some e → IsSamePair d e → ⊥
  pub few : length found ≤ most

-- besides, the first is a shortest one, and where there are none though some are wanted, the lists say
-- the same
pub record AreAllDifferences (counted : Counted) (old new : List Rule) (most : ℕ) (found : List Difference) : Type 0 where
  pub different : AreDifferent counted old new most found
  pub first : (d : Difference) → slice_get found 0 ≡ Some d → AreFirstDifferentAt counted old new d
  pub none : found ≡ [] → (most ≡ 0) ⊎ SaySame counted old new

-- the differences of both lists that are wanted
abbrev pub AreDifferences : Wanted → List Rule → List Rule → List Difference → Type 0
AreDifferences wanted old new found = AreAllDifferences wanted.counted old new wanted.most found

-- of the lists of a search, differences that are so
abbrev pub AreDifferencesOf : Lists → ℕ → List Difference → Type 0
AreDifferencesOf lists most found = AreDifferent lists.counted lists.old.now.rules lists.new.now.rules most found

-- and all that is said of them
abbrev pub AreFound : Lists → ℕ → List Difference → Type 0
AreFound lists most found = AreAllDifferences lists.counted lists.old.now.rules lists.new.now.rules most found
