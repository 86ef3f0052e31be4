use Rattle.std.proofs.Common.{◌≡◌, ℕ, List, map, string_bytes, take}
use Rattle.std.specs.Io.KnownBytes.{Appends}
use Rattle.std.specs.List.{flat_map}
use Rattle.ignore_dir.specs.Load.{AreLoads, Loaded}
use Rattle.ignore_files.specs.Gives.{IsHonest}
use Rattle.ignore_files.specs.Tree.{Tree}
use Rattle.ignore_query.specs.Agrees.{Agrees}
use Rattle.ignore_query.specs.Reached.{dir_of, scene_of}
use Rattle.ig_commands.specs.Counts.{counted}
use Rattle.ig_commands.specs.Why.{AreSaid, Said, is_found, is_wrong, reports, written}
use Rattle.ig_commands.proofs.why.ask_all.Given as goal

-- what is said of the paths so far is written, reported and counted, and the matcher still agrees
-- with the bare tree
abbrev pub invariant-loop-given : goal.invariant-loop-given
invariant-loop-given g l = record {
  answers : (said : List Said)
      × Appends (g.W.Output.contents l.fn.out) (g.W.Output.contents l.out) (flat_map (written l.options (string_bytes l.fn.matcher.asked.root)) said)
      × Appends (g.E.Write.contents l.fn.err) (g.E.Write.contents l.err) (flat_map (reports l.options (string_bytes l.fn.matcher.asked.root)) said)
      × (l.counts.reported ≡ counted 0 (map (is_wrong l.options) said)) × (l.counts.found ≡ counted 0 (map is_found said))
      × ((tree : Tree) (loads : List ℕ → Loaded) → IsHonest g.F.Files l.world.files.now tree
      → AreLoads tree l.fn.matcher.asked.settings loads
      → Agrees (scene_of l.fn.matcher.asked tree loads) l.fn.matcher.cache
      → AreSaid (scene_of l.fn.matcher.asked tree loads) (dir_of l.fn.matcher.asked) (take l.given-index l.given-items)
      l.fn.matcher.cache l.matcher.cache said);
  agrees : (tree : Tree) (loads : List ℕ → Loaded) → IsHonest g.F.Files l.world.files.now tree
      → AreLoads tree l.fn.matcher.asked.settings loads
      → Agrees (scene_of l.fn.matcher.asked tree loads) l.fn.matcher.cache
      → Agrees (scene_of l.fn.matcher.asked tree loads) l.matcher.cache;
  same : l.matcher.asked ≡ l.fn.matcher.asked;
}
