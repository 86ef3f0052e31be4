use Rattle.commands.proofs.LineLemmas.{appends_nothing}
use Rattle.ig_commands.specs.Lint.{finding_text}
use Rattle.ig_commands.proofs.TurnLemmas.{turn_more, turns_end}
use Rattle.ig_commands.proofs.lint.write_all.Goals as goal

pub loop-diagnostic-init : goal.loop-diagnostic-init
loop-diagnostic-init g c = appends_nothing (g.W.Output.contents c.args.out.now)

pub loop-diagnostic-preserved : goal.loop-diagnostic-preserved
loop-diagnostic-preserved g c =
    turn_more (finding_text c.args.how.options.now c.args.how.json c.args.path.now) c.args.found.now c.loop-diagnostic.diagnostic-index c.diagnostic-item.result
    _ _ _ c.loop-diagnostic-test.true c.diagnostic-item.is c.loop-diagnostic.invariant c.in_ok-write_found.ensures.writes

pub returns-clause-writes : goal.returns-clause-writes
returns-clause-writes g c =
    turns_end (finding_text c.args.how.options.now c.args.how.json c.args.path.now) c.args.found.now c.loop-diagnostic.diagnostic-index _ _
    c.loop-diagnostic-test.false c.loop-diagnostic.invariant
