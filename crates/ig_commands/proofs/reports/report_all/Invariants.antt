use Rattle.std.proofs.Common.{◌≡◌, map, option_map, take}
use Rattle.std.specs.Io.KnownBytes.{Appends}
use Rattle.std.specs.List.{flat_map}
use Rattle.ignore_base.specs.Problem.{problem_of}
use Rattle.ig_commands.specs.Counts.{counted}
use Rattle.ig_commands.specs.Reports.{is_known, report_of}
use Rattle.ig_commands.proofs.reports.report_all.Given as goal

-- the errors so far are counted and reported
abbrev pub invariant-loop-error : goal.invariant-loop-error
invariant-loop-error g l = record {
  counts : l.count ≡ counted 0 (map is_known (map (option_map problem_of) (take l.error-index l.errors)));
  reports : Appends (g.E.Write.contents l.fn.err) (g.E.Write.contents l.err) (flat_map report_of (map (option_map problem_of) (take l.error-index l.errors)));
}
