use Rattle.std.proofs.Common.{◌<◌, rules}
use Rattle.ig_commands.proofs.LintLemmas.{one_report}
use Rattle.ig_commands.proofs.sources.report_unread.Goals as goal
use Rattle.ig_commands.proofs.sources.report_unread.Goals.{in-Some+then-is_of_file+in_ok-report, in-Some+else-is_of_file, in_default}

pub loop-error-preserved : goal.loop-error-preserved
loop-error-preserved g c =
    let so = c.loop-error.invariant in
    elim c.match-error.branch [
      | in-Some+then-is_of_file+in_ok-report w ↦
          let some : 0 < w.saturating_add-count.result = search rules in
          rw (w.err-is, w.count-is) (one_report (g.E.Write.contents c.args.err.now) (g.E.Write.contents c.loop-error.err) (g.E.Write.contents w.report.new.err)
          c.loop-error.count w.saturating_add-count.result _ so w.in_ok-report.ensures.reports some)
      | in-Some+else-is_of_file w ↦ rw (w.err-is, w.count-is) so
      | in_default w ↦ rw (w.err-is, w.count-is) so
    ]
