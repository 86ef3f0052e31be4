-- What the tables of two lists say at the places of a search.
use Rattle.std.specs.Prelude.{◌≡◌, ℕ, Bool, true, List, Option, None, Some, slice_get, cond}
use Rattle.ignore_rules.specs.Rules.{Rule}
use Rattle.ignore_every.specs.declared.place.Place.{Place}
use Rattle.ignore_every.specs.declared.said.Counted.{Counted}
use Rattle.ignore_every.specs.declared.said.Verdict.{Verdict}
use Rattle.ignore_every.specs.declared.said.Verdict.TheVariants as V
use Rattle.ignore_every.specs.Findings.{is_before}
use Rattle.ignore_every.specs.Names.{is_named}
use Rattle.ignore_every.specs.Searches.{Tabled, Scope}
use Rattle.ignore_every.specs.Verdicts.{counted_as}

-- the verdict of a rule, if there is one
abbrev pub rule_verdict : Option Rule → Verdict
rule_verdict None = V.None
rule_verdict (Some rule) = cond rule.is_whitelist V.Whitelist V.Ignore

-- the verdict of the rule that decides, if one does
abbrev pub verdict_by : List Rule → Option ℕ → Verdict
verdict_by rules None = V.None
verdict_by rules (Some k) = rule_verdict (slice_get rules k)

-- the verdict of the rule that is known to decide
abbrev pub known_verdict : List Rule → Option (Option ℕ) → Option Verdict
known_verdict rules None = None
known_verdict rules (Some k) = Some (verdict_by rules k)

-- what a list says at a state; where it isn't asked, ignore
abbrev pub verdict_at : Tabled → Option ℕ → Bool → Option Verdict
verdict_at side None is_dir = Some V.Ignore
verdict_at side (Some s) is_dir = known_verdict side.rules (side.table.decider s is_dir)

-- both lists say at the place what counts as the same
abbrev pub AgreesAt : Counted → Scope → Place → Bool → Type 0
AgreesAt counted scope place is_dir =
    (v : Verdict) × (w : Verdict) × (verdict_at scope.left place.left is_dir ≡ Some v) × (verdict_at scope.right place.right is_dir ≡ Some w)
    × (counted_as counted v ≡ counted_as counted w)

-- so it is at this place, if it is of a name and before the bound
abbrev pub NumberAgrees : Counted → Scope → List Place → Option ℕ → ℕ → Type 0
NumberAgrees counted scope places bound i =
    (place : Place) → slice_get places i ≡ Some place → is_named place.name ≡ true → is_before place.depth bound ≡ true
    → (is_dir : Bool) → AgreesAt counted scope place is_dir

-- so it is at each place
abbrev pub AgreesBefore : Counted → Scope → List Place → Option ℕ → Type 0
AgreesBefore counted scope places bound = (i : ℕ) → NumberAgrees counted scope places bound i
