use Rattle.std.proofs.Common.{◌≡◌, ◌+◌, ◌*◌, ◌++◌, [], ℕ, List, false, length, map, if◌then◌else◌}
use Rattle.std.specs.Prelude.{All}
use Rattle.ignore_base.specs.Text.{Path}
use Rattle.ignore_walk.specs.Below.{KeepsBelow, StaysBelow}
use Rattle.ignore_walk.specs.Entry.{Item, item_of}
use Rattle.ignore_walk.specs.GoesOn.{AllGoOn, HasNoEnd}
use Rattle.ignore_walk.specs.Moves.{IsAfter}
use Rattle.ignore_walk.specs.Nexts.{IsOver, Remaining, Starts}
use Rattle.ignore_walk.specs.Paces.{TookSteps, work_of}
use Rattle.ignore_walk.specs.Scene.{Scene}
use Rattle.ignore_walk.specs.Stands.{Becomes}
use Rattle.ignore_walk.proofs.walk.Walk.all_items.Given as goal

-- what was collected, and then what remains, is what remained, and what the roots give, where there
-- are such; the files are the same; a walk that went on goes on, and of one that was over nothing was
-- collected; the steps that are left are fewer by those that were taken; no item ended the walk; and
-- what was collected is at or below the roots, as all in hand is
abbrev pub invariant-loop-item : goal.invariant-loop-item
invariant-loop-item g l = record {
  remaining : (s : Scene) (items : List Item) (n : ℕ) → Remaining g.F.Files g.S.Callbacks s l.fn.self items n
      → (others : List Item) × (k : ℕ) × (items ≡ map item_of l.all.items ++ others)
      × (n + l.self.left ≡ k + l.fn.self.left) × Remaining g.F.Files g.S.Callbacks s l.self others k;
  ground : l.self.ground ≡ l.fn.self.ground;
  exists : (s : Scene) (roots : List Path) → Starts g.F.Files g.S.Callbacks s l.fn.self roots
      → (k : ℕ) × (l.self.left + k ≡ l.fn.self.left) × Becomes s l.self.stack (IsAfter s roots (map item_of l.all.items) k);
  goes_on : l.fn.self.ended ≡ false → l.self.ended ≡ false;
  over : IsOver l.fn.self → IsOver l.self × (l.all.items ≡ []);
  paced : l.fn.self.ended ≡ false
      → (k : ℕ) × (l.self.left + k ≡ l.fn.self.left) × TookSteps (g.F.Files.list_gives l.fn.self.ground.files.now) k (work_of l.fn.self.stack) (work_of l.self.stack);
  no_end : HasNoEnd l.fn.self.stack → HasNoEnd l.self.stack × AllGoOn (map item_of l.all.items);
  below : (roots : List Path) → KeepsBelow roots l.fn.self.stack → KeepsBelow roots l.self.stack × All (StaysBelow roots) (map item_of l.all.items);
}

abbrev pub decreases-loop-item : goal.decreases-loop-item
decreases-loop-item g l = 4 * l.self.left + (length l.self.stack.made.items + (if l.self.ended then 0 else 1))
