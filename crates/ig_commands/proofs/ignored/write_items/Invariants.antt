use Rattle.std.proofs.Common.{◌≡◌, ◌≢◌, All, Err, List, map}
use Rattle.std.specs.Io.KnownBytes.{Appends}
use Rattle.std.specs.List.{flat_map}
use Rattle.ignore_base.specs.Problem.{memory}
use Rattle.ignore_files.specs.Gives.{IsHonest}
use Rattle.ignore_files.specs.Tree.{Tree}
use Rattle.ignore_survey.specs.Surveyed.{item_of}
use Rattle.ig_commands.specs.Counts.{counted}
use Rattle.ig_commands.specs.Ignored.{IsJudged, Shown, is_found, written}
use Rattle.ig_commands.specs.Surveys.{is_wrong, left_from, seen_of, told_from}
use Rattle.ig_commands.proofs.ignored.write_items.Given as goal

-- the items that were yielded are written, reported and counted, and none is out of memory
abbrev pub invariant-loop-item : goal.invariant-loop-item
invariant-loop-item g l =
    (shown : List Shown) × (map (λ (s : Shown). s.0) shown ≡ map seen_of l.yielded)
    × Appends (g.W.Output.contents l.fn.out) (g.W.Output.contents l.out) (flat_map (written l.place.options.now l.place.root.now) shown)
    × Appends (g.E.Write.contents l.fn.err) (g.E.Write.contents l.err) (told_from l.place.options.now l.fn.names (map (λ (s : Shown). s.0) shown))
    × (l.counts.reported ≡ counted 0 (map (is_wrong l.place.options.now) (map (λ (s : Shown). s.0) shown)))
    × (l.counts.found ≡ counted 0 (map (is_found l.place.options.now) shown))
    × All (λ x. item_of x ≢ Err memory) l.yielded
    × ((tree : Tree) → IsHonest g.G.Files l.place.bare.now tree → All (IsJudged tree l.place.options.now l.place.root.now) shown)
    × (l.names ≡ left_from l.fn.names (map (λ (s : Shown). s.0) shown))
