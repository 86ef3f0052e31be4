use Rattle.std.proofs.Common.{List, ℕ, Option}
use Rattle.std.specs.Io.KnownBytes.{Appends}
use Rattle.ig_commands.specs.Lint.{CountsSoFar, IsCounted}
use Rattle.ig_commands.proofs.sources.survey_root.Given as goal

-- what was reported so far goes with the count, and so do the names that are still to be told
abbrev pub invariant-loop-item : goal.invariant-loop-item
invariant-loop-item g l =
    (start : Option (List ℕ)) → IsCounted l.fn.sources.reported (Appends start (g.E.Write.contents l.fn.err))
    → CountsSoFar l.sources.reported l.names start (g.E.Write.contents l.err)
