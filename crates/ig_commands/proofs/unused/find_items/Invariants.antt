use Rattle.std.proofs.iter.Next as it
use Rattle.std.proofs.Common.{◌≡◌, ◌≢◌, All, Err, map}
use Rattle.std.specs.Io.KnownBytes.{Appends}
use Rattle.std.specs.Iterator.{EndsFrom, items_left}
use Rattle.ignore_base.specs.Problem.{memory}
use Rattle.ignore_survey.specs.Surveyed.{item_of}
use Rattle.ig_commands.specs.Counts.{counted}
use Rattle.ig_commands.specs.Found.{deciding, first_at}
use Rattle.ig_commands.specs.Rules.{Grows}
use Rattle.ig_commands.specs.Surveys.{is_wrong, left_from, seen_of, told_from}
use Rattle.ig_commands.proofs.unused.find_items.Given as goal

-- what is wrong with the items so far is reported and counted, the rules that decide on them are
-- noted, and none is out of memory
abbrev pub invariant-loop-item : goal.invariant-loop-item
invariant-loop-item g l = record {
  runs : it.Ran g.I.Iterator.can_next (EndsFrom g.I.Iterator.remaining) (items_left g.I.Iterator.remaining) g.I.Iterator.next_gives
      (λ xs. Appends (g.E.Write.contents l.fn.err) (g.E.Write.contents l.err) (told_from l.options l.fn.names (map seen_of xs))
      × (l.reported ≡ counted 0 (map (is_wrong l.options) (map seen_of xs))) × All (λ x. item_of x ≢ Err memory) xs
      × Grows (first_at (deciding (map seen_of xs))) l.fn.found.used l.found.used × (l.names ≡ left_from l.fn.names (map seen_of xs))) l.fn.items l.items;
  read : l.found.read ≡ l.fn.found.read;
}

abbrev pub decreases-loop-item : goal.decreases-loop-item
decreases-loop-item g l = items_left g.I.Iterator.remaining l.items
