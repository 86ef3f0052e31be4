use Rattle.std.proofs.Common.{refl, subst, sym}
use Rattle.std.proofs.lemmas.Result.{IfErr-weaker}
use Rattle.ig_commands.specs.Stops.{SaidBy}
use Rattle.ig_commands.proofs.RunLemmas.{kept_err, kept_ok, none_kept, told_err}
use Rattle.ig_commands.proofs.run.finish.Goals as goal

-- what is written at the end is written
pub returns-in-Ok-clause-kept : goal.returns-in-Ok-clause-kept
returns-in-Ok-clause-kept g c = kept_ok c.args.ended c.flushed.result c.in-Ok.status _ _ c.in-Ok.is c.flushed.ensures.status refl

pub returns-in-Ok-clause-reported : goal.returns-in-Ok-clause-reported
returns-in-Ok-clause-reported g c = none_kept c.args.ended c.flushed.result c.in-Ok.status _ c.in-Ok.is c.flushed.ensures.ended

-- the command ended early, or what is written at the end can't be
pub returns-in-Err-clause-kept : goal.returns-in-Err-clause-kept
returns-in-Err-clause-kept g c =
    kept_err (g.W.Output.fails c.args.out.now) (g.W.Output.fails c.flushed.new.out) c.args.ended c.flushed.result c.report_stop.result c.in-Err.stop (g.E.Write.contents c.args.err.now)
    (g.E.Write.contents c.report_stop.new.err) c.in-Err.is c.flushed.ensures.status c.in-Err.ensures.said c.report_stop.ensures.reports

pub returns-in-Err-clause-reported : goal.returns-in-Err-clause-reported
returns-in-Err-clause-reported g c =
    told_err c.args.ended c.flushed.result c.report_stop.result c.in-Err.stop (g.E.Write.contents c.args.err.now)
    (g.E.Write.contents c.report_stop.new.err) c.in-Err.is c.flushed.ensures.ended c.report_stop.ensures.reports

-- that it can't be reported ends it for the same reason
pub returns-in-Err-clause-said : goal.returns-in-Err-clause-said
returns-in-Err-clause-said g c = λ so.
    IfErr-weaker c.report_stop.result _ _
    (λ why h. subst (SaidBy (g.W.Output.fails c.flushed.new.out)) (sym h.0) (c.in-Err.ensures.said so)) c.report_stop.ensures.unreported
