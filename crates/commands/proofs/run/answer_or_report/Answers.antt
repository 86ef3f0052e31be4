use Rattle.std.proofs.Common.{inr}
use Rattle.std.proofs.lemmas.Result.{IfErr-weaker, IfOk-weaker}
use Rattle.std.specs.Io.KnownBytes.{Appends}
use Rattle.commands.specs.Words.{request_view}
use Rattle.commands.specs.Stops.{EndsUnreported, SaidBy}
use Rattle.commands.proofs.StopLemmas.{ends_reported, ends_unreported}
use Rattle.commands.proofs.run.answer_or_report.Goals as goal
use Rattle.std.proofs.Common.{subst, sym}

pub returns-in-Err-clause-prints : goal.returns-in-Err-clause-prints
returns-in-Err-clause-prints g c =
    let out = Appends (g.W.Output.contents c.args.out.now) (g.W.Output.contents c.answer.new.out) in
    let before = g.E.Write.contents c.args.err.now in
    let middle = g.E.Write.contents c.answer.new.err in
    let after = g.E.Write.contents c.report_stop.new.err in
    IfOk-weaker c.report_stop.result _ _
    (λ status h. inr (
      h.0,
      ends_reported (SaidBy (g.W.Output.fails c.answer.new.out)) (request_view c.args.request) out before middle after c.in-Err.stop c.in-Err.ensures.ended c.in-Err.ensures.said h.1 h.2,
    ))
    c.report_stop.ensures.reports

pub returns-in-Err-clause-unreported : goal.returns-in-Err-clause-unreported
returns-in-Err-clause-unreported g c =
    let out = Appends (g.W.Output.contents c.args.out.now) (g.W.Output.contents c.answer.new.out) in
    let before = g.E.Write.contents c.args.err.now in
    let middle = g.E.Write.contents c.answer.new.err in
    let after = g.E.Write.contents c.report_stop.new.err in
    IfErr-weaker c.report_stop.result _ _
    (λ why h. subst (EndsUnreported (request_view c.args.request) out (Appends before after)) (sym h.0)
    (ends_unreported (request_view c.args.request) out before middle after c.in-Err.stop c.in-Err.ensures.ended
    h.1))
    c.report_stop.ensures.unreported
