use Rattle.commands.proofs.LineLemmas.{appends_nothing}
use Rattle.ig_commands.specs.Types.{type_line}
use Rattle.ig_commands.proofs.TurnLemmas.{turn_more, turns_end}
use Rattle.ig_commands.proofs.types.write_types.Goals as goal

pub loop-definition-init : goal.loop-definition-init
loop-definition-init g c = appends_nothing (g.W.Output.contents c.args.out.now)

pub loop-definition-preserved : goal.loop-definition-preserved
loop-definition-preserved g c =
    turn_more type_line c.args.definitions.now c.loop-definition.definition-index c.definition-item.result _ _ _
    c.loop-definition-test.true c.definition-item.is c.loop-definition.invariant c.in_ok-write_type.ensures.writes

pub returns-clause-writes : goal.returns-clause-writes
returns-clause-writes g c =
    turns_end type_line c.args.definitions.now c.loop-definition.definition-index _ _ c.loop-definition-test.false c.loop-definition.invariant
