use Rattle.std.proofs.Common.{◌≡◌, ◌∙◌, map, option_map, take, sym, ap, subst, rules}
use Rattle.std.specs.Io.KnownBytes.{Appends}
use Rattle.std.specs.List.{flat_map}
use Rattle.ignore_base.specs.Problem.{problem_of}
use Rattle.commands.proofs.CheckLemmas.{map-take-push}
use Rattle.ig_commands.specs.Counts.{counted, one_more}
use Rattle.ig_commands.specs.Reports.{is_known, report_of}
use Rattle.ig_commands.proofs.FieldLemmas.{problem_through, reported_more}
use Rattle.ig_commands.proofs.reports.report_all.Goals as goal

pub loop-error-preserved : goal.loop-error-preserved
loop-error-preserved g c =
    let l = c.loop-error in
    let more = c.in_ok-report_some.ensures.reports in
    let is = problem_through c.as_ref.result c.error-item.result c.as_ref.ensures.value in
    let all = map-take-push (option_map problem_of) c.args.errors.now l.error-index c.error-item.result c.loop-error-test.true c.error-item.is in
    let n : c.saturating_add-count.result ≡ one_more l.count c.in_ok-report_some.field-0 = search rules in
    let next = reported_more (map (option_map problem_of) (take l.error-index c.args.errors.now)) _ _ l.count c.saturating_add-count.result
    c.in_ok-report_some.field-0 _ _ _ is l.invariant.counts n more.0 l.invariant.reports more.1 in
    record {
      counts = next.0 ∙ ap (λ ps. counted 0 (map is_known ps)) (sym all);
      reports = subst (λ ps. Appends (g.E.Write.contents c.args.err.now) (g.E.Write.contents c.report_some.new.err) (flat_map report_of ps)) (sym all) next.1;
    }
