use Rattle.std.specs.Io.KnownBytes.{Appends}
use Rattle.ig_commands.specs.Lint.{IsCounted}
use Rattle.ig_commands.proofs.sources.report_unread.Given as goal

-- what was reported so far goes with the count
abbrev pub invariant-loop-error : goal.invariant-loop-error
invariant-loop-error g l = IsCounted l.count (Appends (g.E.Write.contents l.fn.err) (g.E.Write.contents l.err))
