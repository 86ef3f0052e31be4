use Rattle.std.proofs.Common.{◌≡◌, ◌≢◌, ℕ, All, Err, None, map, []}
use Rattle.std.specs.Io.KnownBytes.{Appends}
use Rattle.std.specs.List.{flat_map}
use Rattle.ignore_base.specs.Problem.{memory}
use Rattle.ignore_walk.specs.Entry.{Item, item_of}
use Rattle.ig_commands.specs.Counts.{counted}
use Rattle.ig_commands.specs.Folders.{last_in}
use Rattle.ig_commands.specs.Reports.{first_reports, is_reported, last_at, names_left}
use Rattle.ig_commands.specs.Writing.{is_found, lines_of}
use Rattle.ig_commands.proofs.listing.write_items.Given as goal

-- the items that were yielded are written, reported and noted, and none is out of memory
abbrev pub invariant-loop-item : goal.invariant-loop-item
invariant-loop-item g l = record {
  lists : Appends (g.W.Output.contents l.fn.out) (g.W.Output.contents l.out) (flat_map (lines_of l.options) (map item_of l.yielded));
  reports : Appends (g.E.Write.contents l.fn.err) (g.E.Write.contents l.err) (first_reports l.options (map item_of l.yielded));
  notes : (depth : ℕ) → last_in l.met.folders depth ≡ last_at (map item_of l.yielded) depth;
  names : l.met.names ≡ names_left [] None (map item_of l.yielded);
  reported : l.counts.reported ≡ counted 0 (map (is_reported l.options) (map item_of l.yielded));
  found : l.counts.found ≡ counted 0 (map (is_found l.options) (map item_of l.yielded));
  enough : All (λ (item : Item). item ≢ Err memory) (map item_of l.yielded);
}
