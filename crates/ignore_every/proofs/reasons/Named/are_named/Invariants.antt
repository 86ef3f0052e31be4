use Rattle.std.proofs.Common.{◌≡◌, ℕ, ◌<◌, Bool, Some, slice_get}
use Rattle.ignore_every.specs.Findings.{IsNamedAt}
use Rattle.ignore_every.specs.Rows.{table_of}
use Rattle.ignore_every.specs.declared.place.Place.{Place}
use Rattle.ignore_every.proofs.reasons.Named.are_named.Given as goal

-- so it is at the places before
abbrev pub invariant-loop-number : goal.invariant-loop-number
invariant-loop-number l =
    (i : ℕ) → i < l.number → (place : Place) → slice_get l.places i ≡ Some place → (is_dir : Bool)
    → IsNamedAt (table_of l.self.rows.now) l.self.is_only_dir l.self.index l.self.named.now place is_dir
