use Rattle.std.proofs.Common.{◌≡◌, ◌<◌, ◌⊎◌, ◌↔◌, ℕ, length}
use Rattle.std.specs.Prelude.{Contains, All}
use Rattle.ignore_glob.specs.Flags.{IsFlagged}
use Rattle.ignore_glob.proofs.glob.marks.flag_all.Given as goal

-- what is flagged, and what is still to be
abbrev pub invariant-loop-first : goal.invariant-loop-first
invariant-loop-first l = record {
  len : length l.flags.all.items ≡ length l.initial.flags.all.items;
  within : All (λ q. q < length l.initial.flags.all.items) l.rest;
  flagged : (p : ℕ) → (IsFlagged l.flags.all.items p ⊎ Contains l.rest p)
      ↔ (IsFlagged l.initial.flags.all.items p ⊎ Contains l.positions p);
}

abbrev pub decreases-loop-first : goal.decreases-loop-first
decreases-loop-first l = length l.rest
