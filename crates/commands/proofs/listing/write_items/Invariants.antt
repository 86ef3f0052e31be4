use Rattle.std.proofs.Common.{◌≡◌, ◌≢◌, All, Err, map}
use Rattle.std.specs.Io.KnownBytes.{Appends}
use Rattle.std.specs.List.{flat_map, list_any}
use Rattle.ignore_base.specs.Problem.{memory}
use Rattle.ignore_walk.specs.Entry.{Item, item_of}
use Rattle.commands.specs.Listing.{lines_of, reports_of, is_reported}
use Rattle.commands.proofs.listing.write_items.Given as goal

-- the items that were yielded are written and reported, and none is out of memory
abbrev pub invariant-loop-item : goal.invariant-loop-item
invariant-loop-item g l = record {
  lists : Appends (g.W.Output.contents l.fn.out) (g.W.Output.contents l.out) (flat_map lines_of (map item_of l.yielded));
  reports : Appends (g.E.Write.contents l.fn.err) (g.E.Write.contents l.err) (flat_map reports_of (map item_of l.yielded));
  reported : l.any ≡ list_any is_reported (map item_of l.yielded);
  enough : All (λ (item : Item). item ≢ Err memory) (map item_of l.yielded);
}
