use Rattle.std.proofs.Common.{◌<◌, ℕ, rules, subst, sym}
use Rattle.ig_commands.specs.Lint.{CountsSoFar}
use Rattle.ig_commands.proofs.LintLemmas.{noted_item}
use Rattle.ig_commands.proofs.sources.note_met.Goals as goal

-- one more was reported, now or later
pub returns-in_ok-note_item-in-Err-clause-counted : goal.returns-in_ok-note_item-in-Err-clause-counted
returns-in_ok-note_item-in-Err-clause-counted g c = λ start so.
    let some : 0 < c.saturating_add-sources.result = search rules in
    noted_item start (g.E.Write.contents c.args.err.now) (g.E.Write.contents c.note_item.new.err) c.args.sources.now.reported c.saturating_add-sources.result
    c.args.names.now c.note_item.new.names _ so c.in_ok-note_item-in-Err.ensures.reports some
