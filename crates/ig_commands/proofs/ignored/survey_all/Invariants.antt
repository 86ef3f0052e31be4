use Rattle.std.proofs.Common.{◌≡◌, List, map}
use Rattle.std.specs.Io.KnownBytes.{Appends}
use Rattle.std.specs.List.{AllZip}
use Rattle.ignore_files.specs.Gives.{IsHonest}
use Rattle.ignore_files.specs.Tree.{Tree}
use Rattle.ig_commands.specs.Counts.{counted}
use Rattle.ig_commands.specs.Ignored.{AreJudged, OfShown, all_met, all_written, found_in, seen_in}
use Rattle.ig_commands.specs.Surveys.{IsWhole, OfMatcher, all_seen, all_told, is_wrong}
use Rattle.ig_commands.proofs.ignored.survey_all.Given as goal

-- the roots so far are surveyed, and what was met is written, reported and counted
abbrev pub invariant-loop-matcher : goal.invariant-loop-matcher
invariant-loop-matcher g l =
    (all : List OfShown) × AllZip (λ m r. OfMatcher g.F.Files l.world.files.now IsWhole m (seen_in r)) l.yielded all
    × Appends (g.W.Output.contents l.fn.out) (g.W.Output.contents l.out) (all_written l.choice.options.now all)
    × Appends (g.E.Write.contents l.fn.err) (g.E.Write.contents l.err) (all_told l.choice.options.now (all_met all))
    × (l.counts.reported ≡ counted 0 (map (is_wrong l.choice.options.now) (all_seen (all_met all))))
    × (l.counts.found ≡ found_in l.choice.options.now all)
    × ((tree : Tree) → IsHonest g.G.Files l.choice.bare.now tree → AreJudged tree l.choice.options.now all)
