use Rattle.ig_commands.specs.Lint.{StillCounts}
use Rattle.ig_commands.proofs.sources.survey_worktree.Given as goal

-- what was reported so far goes with the count
abbrev pub invariant-loop-matcher : goal.invariant-loop-matcher
invariant-loop-matcher g l = StillCounts l.fn.sources.reported (g.E.Write.contents l.fn.err) l.sources.reported (g.E.Write.contents l.err)
