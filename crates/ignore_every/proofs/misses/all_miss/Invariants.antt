use Rattle.std.proofs.Common.{ℕ, ◌<◌}
use Rattle.ignore_every.specs.Findings.{MissesAt}
use Rattle.ignore_every.specs.Rows.{table_of}
use Rattle.ignore_every.proofs.misses.all_miss.Given as goal

-- so it is at the places before
abbrev pub invariant-loop-number : goal.invariant-loop-number
invariant-loop-number l = (i : ℕ) → i < l.number → MissesAt (table_of l.rows) l.places l.index l.bound i
