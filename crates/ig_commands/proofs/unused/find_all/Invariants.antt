use Rattle.std.proofs.Common.{◌≡◌, List, map}
use Rattle.std.specs.Io.KnownBytes.{Appends}
use Rattle.std.specs.List.{AllZip}
use Rattle.ignore_why.specs.Cited.{Named}
use Rattle.ig_commands.specs.Counts.{counted}
use Rattle.ig_commands.specs.Found.{FindsOf, deciding, first_at, met, read_in}
use Rattle.ig_commands.specs.Rules.{Grows}
use Rattle.ig_commands.specs.Surveys.{OfRoot, all_seen, all_told, is_wrong}
use Rattle.ig_commands.proofs.unused.find_all.Given as goal

-- the roots so far are surveyed, what is wrong is reported and counted, and the rules are noted
abbrev pub invariant-loop-matcher : goal.invariant-loop-matcher
invariant-loop-matcher g l =
    (all : List (OfRoot × List Named)) × AllZip (FindsOf g.F.Files l.world.files.now) l.yielded all
    × Appends (g.E.Write.contents l.fn.err) (g.E.Write.contents l.err) (all_told l.options (met all))
    × (l.reported ≡ counted 0 (map (is_wrong l.options) (all_seen (met all))))
    × Grows (first_at (deciding (all_seen (met all)))) l.fn.found.used l.found.used × Grows (first_at (read_in all)) l.fn.found.read l.found.read
