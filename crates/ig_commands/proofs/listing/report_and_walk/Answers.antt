use Rattle.std.proofs.Common.{◌∙◌, [], List, None, Option, ap, inl, inr, map, option_map, refl, rules}
use Rattle.std.proofs.lemmas.Result.{err_from_is_err_and}
use Rattle.std.specs.Io.KnownBytes.{Appends}
use Rattle.std.specs.List.{flat_map}
use Rattle.ignore_base.specs.Problem.{problem_of}
use Rattle.ignore_base.specs.declared.error.Error.{Error}
use Rattle.ig_commands.specs.Counts.{counted}
use Rattle.ig_commands.specs.Reports.{first_reports, is_known, report_of}
use Rattle.ig_commands.specs.Writing.{lines_of}
use Rattle.ig_commands.proofs.ListLemmas.{whole_list}
use Rattle.ig_commands.proofs.ReportLemmas.{reported_as}
use Rattle.ig_commands.proofs.StopLemmas.{ends_after_reports}
use Rattle.ig_commands.proofs.listing.report_and_walk.Goals as goal

pub returns-clause-lists : goal.returns-clause-lists
returns-clause-lists g c =
    let problems = map (option_map problem_of) c.args.asked.errors.items in
    let h = c.in_ok-counts.ensures.lists in (
      h.0,
      whole_list c.args.options.now problems h.0 c.in_ok-reported.reported c.in_ok-counts.counts.reported c.in_ok-counts.counts.found
          c.saturating_add.result c.status_of.result _ (g.E.Write.contents c.args.err.now) (g.E.Write.contents c.report_all.new.err)
          (g.E.Write.contents c.walk_and_write.new.err) (g.E.Write.contents c.report_counts.new.err) (c.in_ok-reported.ensures.reports.0
          ∙ ap (λ (es : List (Option Error)). counted 0 (map is_known (map (option_map problem_of) es))) c.deref.ensures.value)
          (reported_as c.deref.result.now c.args.asked.errors.items _ _ c.deref.ensures.value c.in_ok-reported.ensures.reports.1) h.1 (search rules) c.in_ok-report_counts.ensures.reports c.status_of.ensures,
      h.2,
    )

-- the problems of the files that are named can't be reported
pub returns-in_err-reported-clause-ended : goal.returns-in_err-reported-clause-ended
returns-in_err-reported-clause-ended g c =
    let p = err_from_is_err_and c.from_residual.result c.from_residual.ensures.1 in
    rw (p.1, p.2) ([], rw c.in_err-reported.ensures.ended tt, inl (inl refl))

-- the walk ended early
pub returns-in_err-counts-clause-ended : goal.returns-in_err-counts-clause-ended
returns-in_err-counts-clause-ended g c =
    let problems = map (option_map problem_of) c.args.asked.errors.items in
    let h = c.in_err-counts.ensures.ended in
    let p = err_from_is_err_and c.from_residual-in_err-counts.result c.from_residual-in_err-counts.ensures.1 in
    rw (p.1, p.2) (
      h.0,
      ends_after_reports (flat_map (lines_of c.args.options.now) h.0) (flat_map report_of problems) (first_reports c.args.options.now h.0)
          (Appends (g.W.Output.contents c.args.out.now) (g.W.Output.contents c.walk_and_write.new.out)) (g.E.Write.contents c.args.err.now)
          (g.E.Write.contents c.report_all.new.err) (g.E.Write.contents c.walk_and_write.new.err) c.in_err-counts.field-0.0
          (reported_as c.deref.result.now c.args.asked.errors.items _ _ c.deref.ensures.value c.in_ok-reported.ensures.reports.1) h.1,
      inl h.2,
    )

-- the counts can't be reported
pub returns-in_err-report_counts-clause-ended : goal.returns-in_err-report_counts-clause-ended
returns-in_err-report_counts-clause-ended g c =
    let h = c.in_ok-counts.ensures.lists in
    let p = err_from_is_err_and c.from_residual-in_err-report_counts.result c.from_residual-in_err-report_counts.ensures.1 in
    rw (p.1, p.2) (h.0, rw c.in_err-report_counts.ensures.ended tt, inr h.2)
