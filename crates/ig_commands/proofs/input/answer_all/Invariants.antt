use Rattle.std.proofs.Common.{◌≡◌, ℕ, List, [], map, string_bytes}
use Rattle.std.specs.Io.Iter.{split_byte, split_known_bytes}
use Rattle.std.specs.Io.KnownBytes.{Appends}
use Rattle.std.specs.List.{flat_map}
use Rattle.ignore_dir.specs.Load.{AreLoads, Loaded}
use Rattle.ignore_files.specs.Gives.{IsHonest}
use Rattle.ignore_files.specs.Tree.{Tree}
use Rattle.ignore_query.specs.Agrees.{Agrees}
use Rattle.ignore_query.specs.Reached.{dir_of, scene_of}
use Rattle.ig_options.specs.declared.given.Given.{Given}
use Rattle.ig_commands.specs.Counts.{counted}
use Rattle.ig_commands.specs.Input.{end_byte}
use Rattle.ig_commands.specs.Why.{AreSaid, Said, is_found, is_wrong, reports, written}
use Rattle.ig_commands.proofs.InputLemmas.{Known}
use Rattle.ig_commands.proofs.input.answer_all.Given as goal

-- the bytes are those that gave what was asked so far, and those that are left; what was said of that
-- is written, reported and counted; and the matcher still agrees with the bare tree
abbrev pub invariant-loop-text : goal.invariant-loop-text
invariant-loop-text g l = record {
  can : (goal.iterator-loop-text g).can_next l.text-iterator;
  ends : (goal.iterator-loop-text g).is_finite l.text-iterator;
  byte : split_byte l.text-iterator ≡ end_byte l.asking.options.now;
  answers : (given : List Given) × (said : List Said)
      × Known l.asking.options.now [] (g.R.Read.remaining l.fn.input) (split_known_bytes g.R.Read.remaining l.text-iterator) l.number given
      × Appends (g.W.Output.contents l.fn.out) (g.W.Output.contents l.out) (flat_map (written l.asking.options.now (string_bytes l.fn.matcher.asked.root)) said)
      × Appends (g.E.Write.contents l.fn.err) (g.E.Write.contents l.err) (flat_map (reports l.asking.options.now (string_bytes l.fn.matcher.asked.root)) said)
      × (l.counts.reported ≡ counted 0 (map (is_wrong l.asking.options.now) said)) × (l.counts.found ≡ counted 0 (map is_found said))
      × ((tree : Tree) (loads : List ℕ → Loaded) → IsHonest g.F.Files l.asking.world.now.files.now tree
      → AreLoads tree l.fn.matcher.asked.settings loads
      → Agrees (scene_of l.fn.matcher.asked tree loads) l.fn.matcher.cache
      → AreSaid (scene_of l.fn.matcher.asked tree loads) (dir_of l.fn.matcher.asked) given l.fn.matcher.cache l.matcher.cache said
      × Agrees (scene_of l.fn.matcher.asked tree loads) l.matcher.cache);
  same : l.matcher.asked ≡ l.fn.matcher.asked;
}
