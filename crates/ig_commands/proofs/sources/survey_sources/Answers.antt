use Rattle.std.proofs.Common.{ℕ, subst, sym}
use Rattle.std.specs.Io.KnownBytes.{Appends}
use Rattle.ig_commands.specs.Lint.{IsCounted}
use Rattle.ig_commands.proofs.sources.survey_sources.Goals as goal

pub returns-in-Ok-clause-counted : goal.returns-in-Ok-clause-counted
returns-in-Ok-clause-counted g c = λ start h.
    subst (λ (n : ℕ). IsCounted n (Appends start (g.E.Write.contents c.survey_worktree.new.err))) (sym c.in-Ok.ensures)
    (c.in_ok-survey_worktree.ensures.counted start h)
