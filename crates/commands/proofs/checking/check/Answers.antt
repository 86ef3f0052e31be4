use Rattle.std.proofs.Common.{inr, subst, sym}
use Rattle.std.proofs.lemmas.Result.{IfErr-weaker, IfOk-weaker}
use Rattle.std.specs.Io.KnownBytes.{Appends}
use Rattle.commands.specs.Checking.{line_for, report_for}
use Rattle.commands.specs.Stops.{EndsUnreportedAfter, SaidBy}
use Rattle.commands.proofs.StopLemmas.{ends_reported_after, ends_unreported_after}
use Rattle.commands.proofs.checking.check.Goals as goal

-- it ended early, and the reason is reported
pub returns-in-Err-clause-checks : goal.returns-in-Err-clause-checks
returns-in-Err-clause-checks g c =
    let h = c.in-Err.ensures.ended in
    let out = Appends (g.W.Output.contents c.args.out.now) (g.W.Output.contents c.ask_and_write.new.out) in
    let before = g.E.Write.contents c.args.err.now in
    let middle = g.E.Write.contents c.ask_and_write.new.err in
    let after = g.E.Write.contents c.report_stop.new.err in
    IfOk-weaker c.report_stop.result _ _
    (λ status k. inr (
      k.0,
      h.0,
      h.1,
      h.2,
      ends_reported_after (SaidBy (g.W.Output.fails c.ask_and_write.new.out)) line_for report_for h.0 h.1 out before middle after c.in-Err.stop h.3 c.in-Err.ensures.said k.1 k.2,
      h.4,
    ))
    c.report_stop.ensures.reports

-- or it can't be
pub returns-in-Err-clause-unreported : goal.returns-in-Err-clause-unreported
returns-in-Err-clause-unreported g c =
    let h = c.in-Err.ensures.ended in
    let out = Appends (g.W.Output.contents c.args.out.now) (g.W.Output.contents c.ask_and_write.new.out) in
    let before = g.E.Write.contents c.args.err.now in
    let middle = g.E.Write.contents c.ask_and_write.new.err in
    let after = g.E.Write.contents c.report_stop.new.err in
    IfErr-weaker c.report_stop.result _ _
    (λ why k. (
      h.0,
      h.1,
      h.2,
      subst (EndsUnreportedAfter line_for report_for h.0 h.1 out (Appends before after)) (sym k.0)
          (ends_unreported_after line_for report_for h.0 h.1 out before middle after c.in-Err.stop h.3 k.1),
      h.4,
    ))
    c.report_stop.ensures.unreported
