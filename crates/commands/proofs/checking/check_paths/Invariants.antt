use Rattle.std.proofs.Common.{◌≡◌, ℕ, All, List, cond, map, string_bytes, take}
use Rattle.std.specs.Io.KnownBytes.{Appends}
use Rattle.ignore_dir.specs.Load.{AreLoads, Loaded}
use Rattle.ignore_files.specs.Gives.{IsHonest}
use Rattle.ignore_files.specs.Tree.{Tree}
use Rattle.ignore_query.specs.Agrees.{Agrees}
use Rattle.ignore_query.specs.Reached.{scene_of}
use Rattle.commands.specs.Checking.{Checked, Checks, IsAnswer, ReportsInTurn}
use Rattle.commands.proofs.checking.check_paths.Given as goal

-- the paths so far are answered, by the bare tree, with which the matcher still agrees, and each
-- problem is that of what its path loaded
abbrev pub invariant-loop-path : goal.invariant-loop-path
invariant-loop-path g l = record {
  checks : (all : List Checked) × Checks (map string_bytes (take l.path-index l.paths)) all (cond l.any 1 0)
      (Appends (g.W.Output.contents l.fn.out) (g.W.Output.contents l.out)) (Appends (g.E.Write.contents l.fn.err) (g.E.Write.contents l.err))
      × ((tree : Tree) (loads : List ℕ → Loaded) → IsHonest g.F.Files l.world.files.now tree → AreLoads tree l.fn.matcher.asked.settings loads
      → Agrees (scene_of l.fn.matcher.asked tree loads) l.fn.matcher.cache → All (IsAnswer (scene_of l.fn.matcher.asked tree loads)) all
      × ReportsInTurn (scene_of l.fn.matcher.asked tree loads) all l.fn.matcher.cache l.matcher.cache);
  agrees : (tree : Tree) (loads : List ℕ → Loaded) → IsHonest g.F.Files l.world.files.now tree → AreLoads tree l.fn.matcher.asked.settings loads
      → Agrees (scene_of l.fn.matcher.asked tree loads) l.fn.matcher.cache
      → Agrees (scene_of l.fn.matcher.asked tree loads) l.matcher.cache;
  same : l.matcher.asked ≡ l.fn.matcher.asked;
}
