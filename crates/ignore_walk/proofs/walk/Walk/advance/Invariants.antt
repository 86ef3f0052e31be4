use Rattle.std.proofs.Common.{◌≡◌, ◌≤◌, ◌+◌, ◌*◌, [], ℕ, List, length, if◌then◌else◌}
use Rattle.ignore_base.specs.Text.{Path}
use Rattle.ignore_walk.specs.Below.{KeepsBelow}
use Rattle.ignore_walk.specs.Branch.{Branch}
use Rattle.ignore_walk.specs.Entry.{Item}
use Rattle.ignore_walk.specs.GoesOn.{HasNoEnd}
use Rattle.ignore_walk.specs.Moves.{Precedes}
use Rattle.ignore_walk.specs.Nexts.{Remaining}
use Rattle.ignore_walk.specs.Paces.{TookSteps, work_of}
use Rattle.ignore_walk.specs.Scene.{Scene}
use Rattle.ignore_walk.specs.Stands.{Becomes, IsIn, state_of}
use Rattle.ignore_walk.specs.Suits.{IsGroundOf}
use Rattle.ignore_walk.proofs.walk.Walk.advance.Given as goal

-- the steps that are left are fewer by those that were taken; no item is in hand, and no step was
-- given back; the walk is ended where it was; where no item in hand ended a walk none does; where
-- all in hand was at or below some roots it is; what remained still remains, and what remains now
-- remained
abbrev pub invariant-loop-self : goal.invariant-loop-self
invariant-loop-self g l = record {
  made : l.self.stack.made.items ≡ [];
  fewer : 4 * l.self.left + (if l.self.ended then 0 else 1)
      ≤ 4 * l.initial.self.left + (length l.initial.self.stack.made.items + (if l.initial.self.ended then 0 else 1));
  ground : l.self.ground ≡ l.initial.self.ground;
  ended : l.self.ended ≡ l.initial.self.ended;
  no_end : HasNoEnd l.initial.self.stack → HasNoEnd l.self.stack;
  below : (roots : List Path) → KeepsBelow roots l.initial.self.stack → KeepsBelow roots l.self.stack;
  paced : (k : ℕ) × (l.self.left + k ≡ l.initial.self.left) × TookSteps (g.F.Files.list_gives l.initial.self.ground.files.now) k (work_of l.initial.self.stack) (work_of l.self.stack);
  remaining : (s : Scene) (items : List Item) (n : ℕ) → Remaining g.F.Files g.S.Callbacks s l.initial.self items n
      → (k : ℕ) × (n + l.self.left ≡ k + l.initial.self.left) × Remaining g.F.Files g.S.Callbacks s l.self items k;
  shows : (s : Scene) (root : Path) (place : Branch) (seen : List Path) → IsGroundOf g.F.Files g.S.Callbacks l.initial.self.ground s
      → IsIn s root place seen l.initial.self.stack
      → (k : ℕ) × (l.self.left + k ≡ l.initial.self.left)
      × Becomes s l.self.stack (Precedes s (state_of l.initial.self.stack root place seen) [] k);
}

abbrev pub decreases-loop-self : goal.decreases-loop-self
decreases-loop-self g l = l.self.left
