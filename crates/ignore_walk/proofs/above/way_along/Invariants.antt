use Rattle.std.proofs.Common.{◌≡◌, ℕ, List, Ok, Option, map, take}
use Rattle.ignore_dir.specs.Above.{canonical_names}
use Rattle.ignore_base.specs.Problem.{problem_of}
use Rattle.ignore_dir.specs.Lists.{Placed}
use Rattle.ignore_dir.specs.Soft.{AllSoft}
use Rattle.ignore_levels.specs.declared.list.Place.{Place}
use Rattle.ignore_levels.specs.Levels.{IsChain, slots_of}
use Rattle.ignore_walk.specs.Scene.{Scene}
use Rattle.ignore_walk.specs.Shared.{AreSeen, AreShared, HasCome}
use Rattle.ignore_walk.specs.Suits.{IsGroundOf}
use Rattle.ignore_walk.proofs.above.way_along.Given as goal

abbrev pub invariant-loop-name : goal.invariant-loop-name
invariant-loop-name g l = record {
  kept : (place : Option Place) (chain : List Placed) → IsChain (slots_of l.fn.levels) place chain → IsChain (slots_of l.levels) place chain;
  soft : AllSoft (map problem_of l.way.errors.items);
  come : (s : Scene) (paths : List (List ℕ)) (path : List ℕ) → map (λ n. n.now) l.names ≡ canonical_names (Ok path)
      → IsGroundOf g.F.Files g.S.Callbacks l.ground s → AreSeen l.seen paths → AreShared s (slots_of l.fn.levels) l.seen
      → HasCome s (slots_of l.levels) l.seen paths (map (λ n. n.now) (take l.name-index l.names)) l.way;
}
