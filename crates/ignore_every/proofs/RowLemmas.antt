-- States that a table doesn't have.
use Rattle.std.proofs.Common.{◌≡◌, ℕ, ◌≤◌, Bool, true, false, List, Option, None, Some, length, ap}
use Rattle.std.proofs.lemmas.Option.{slice_get_past}
use Rattle.ignore_every.specs.declared.row.Row.{Row}
use Rattle.ignore_every.specs.Rows.{next_at, next_of, decider_at, decider_of, taking_at, taking_of}

-- a table leads nowhere from there
pub next_past : (rows : List Row) (s a t : ℕ) → length rows ≤ s → next_of rows s a ≡ Some t → ⊥
next_past rows s a t past is =
    let none : next_of rows s a ≡ None = ap (λ o. next_at o a) (slice_get_past rows s past) in cc (none, is)

-- nothing decides there
pub decider_past : (rows : List Row) (s : ℕ) (is_dir : Bool) (k : Option ℕ) → length rows ≤ s → decider_of rows s is_dir ≡ Some k → ⊥
decider_past rows s is_dir k past is =
    let none : decider_of rows s is_dir ≡ None = ap (λ o. decider_at o is_dir) (slice_get_past rows s past) in cc (none, is)

-- no rules are known there
pub taking_past : (rows : List Row) (s : ℕ) (known : List ℕ) → length rows ≤ s → taking_of rows s ≡ Some known → ⊥
taking_past rows s known past is =
    let none : taking_of rows s ≡ None = ap taking_at (slice_get_past rows s past) in cc (none, is)

-- for a file and for a directory
pub both_kinds : (P : Bool → Type 0) → P false → P true → (is_dir : Bool) → P is_dir
both_kinds P file dir false = file
both_kinds P file dir true = dir
