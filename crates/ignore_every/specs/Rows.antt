-- What the rows of a program's table say.
use Rattle.std.specs.Prelude.{ℕ, Bool, List, Option, None, Some, slice_get, cond, unwrap_or}
use Rattle.ignore_every.specs.declared.row.Row.{Row}
use Rattle.ignore_every.specs.Machines.{Table}

-- where a letter leads, where that is known
abbrev pub target : Option (Option ℕ) → Option ℕ
target None = None
target (Some known) = known

-- where a row leads by a letter
abbrev pub next_at : Option Row → ℕ → Option ℕ
next_at None a = None
next_at (Some row) a = target (slice_get row.next.items a)

-- where a state leads by a letter
abbrev pub next_of : List Row → ℕ → ℕ → Option ℕ
next_of rows s a = next_at (slice_get rows s) a

-- the rule that decides by a row
abbrev pub decider_at : Option Row → Bool → Option (Option ℕ)
decider_at None is_dir = None
decider_at (Some row) is_dir = Some (cond is_dir row.dir row.file)

-- the rule that decides at a state
abbrev pub decider_of : List Row → ℕ → Bool → Option (Option ℕ)
decider_of rows s is_dir = decider_at (slice_get rows s) is_dir

-- the rules whose globs take what leads to a row
abbrev pub taking_at : Option Row → Option (List ℕ)
taking_at None = None
taking_at (Some row) = Some row.taking.items

-- the rules whose globs take what leads to a state
abbrev pub taking_of : List Row → ℕ → Option (List ℕ)
taking_of rows s = taking_at (slice_get rows s)

-- the table of rows
abbrev pub table_of : List Row → Table
table_of rows = record { next = next_of rows; decider = decider_of rows; taking = taking_of rows }

-- the pair of a state; of no state the first
abbrev pub part_of : List (ℕ × ℕ) → ℕ → ℕ × ℕ
part_of parts s = unwrap_or (slice_get parts s) (0, 0)
