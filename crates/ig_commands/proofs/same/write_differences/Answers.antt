use Rattle.std.proofs.lemmas.Result.{err_from_is_err_and}
use Rattle.commands.proofs.LineLemmas.{appends_nothing}
use Rattle.ig_commands.specs.Same.{difference_text}
use Rattle.ig_commands.proofs.SameLemmas.{ends_one_more}
use Rattle.ig_commands.proofs.TurnLemmas.{turn_more, turns_end}
use Rattle.ig_commands.proofs.same.write_differences.Goals as goal

pub loop-difference-init : goal.loop-difference-init
loop-difference-init g c = appends_nothing (g.W.Output.contents c.args.out.now)

pub loop-difference-preserved : goal.loop-difference-preserved
loop-difference-preserved g c =
    turn_more (difference_text c.args.options.now c.args.sides.now) c.args.found.now c.loop-difference.difference-index c.difference-item.result _ _ _
    c.loop-difference-test.true c.difference-item.is c.loop-difference.invariant c.in_ok-write_difference.ensures.writes

-- one can't be written
pub returns-in_err-write_difference-clause-ended : goal.returns-in_err-write_difference-clause-ended
returns-in_err-write_difference-clause-ended g c =
    let p = err_from_is_err_and c.from_residual.result c.from_residual.ensures.1 in
    rw (p.1, p.2) (ends_one_more c.args.options.now c.args.sides.now c.args.found.now c.loop-difference.difference-index _ _ _ c.in_err-write_difference.field-0.0
    c.loop-difference.invariant c.in_err-write_difference.ensures.ended)

pub returns-clause-writes : goal.returns-clause-writes
returns-clause-writes g c =
    turns_end (difference_text c.args.options.now c.args.sides.now) c.args.found.now c.loop-difference.difference-index _ _
    c.loop-difference-test.false c.loop-difference.invariant
