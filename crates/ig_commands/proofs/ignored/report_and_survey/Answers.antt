use Rattle.std.proofs.Common.{◌∷◌, ◌++◌, [], List, inl, inr, map, option_map, refl, subst, sym}
use Rattle.std.proofs.lemmas.List.{append-nil}
use Rattle.std.proofs.lemmas.Result.{err_from_is_err_and}
use Rattle.std.specs.Io.KnownBytes.{Appends}
use Rattle.std.specs.List.{flat_map}
use Rattle.commands.proofs.LineLemmas.{appends_nothing, appends_on}
use Rattle.ignore_base.specs.Problem.{problem_of}
use Rattle.ignore_dir.specs.Scene.{scene}
use Rattle.ig_commands.specs.Counts.{counted}
use Rattle.ig_commands.specs.Ignored.{OfShown, all_met, all_written, seen_in}
use Rattle.ig_commands.specs.Reports.{report_of}
use Rattle.ig_commands.specs.Surveys.{AreRootsBy, IsBegun, IsWhole, OfRoot, all_seen, all_told, begun_told, is_wrong}
use Rattle.ig_commands.proofs.ShownLemmas.{each_met, met_more, none_judged, roots_met}
use Rattle.ig_commands.proofs.SurveyLemmas.{begun_of, roots_of}
use Rattle.ig_commands.proofs.ReportLemmas.{counts_told, reported_as, status_as, wrong_as}
use Rattle.ig_commands.proofs.StopLemmas.{ends_after_reports}
use Rattle.ig_commands.proofs.ignored.report_and_survey.Goals as goal

-- a report that can't be written ends it before it surveys
pub returns-in_err-reported-clause-ended : goal.returns-in_err-reported-clause-ended
returns-in_err-reported-clause-ended g c =
    let p = err_from_is_err_and c.from_residual.result c.from_residual.ensures.1 in
    rw (p.1, p.2, c.in_err-reported.ensures.ended) ([], tt, (λ tree honest none. inl refl), λ tree honest. none_judged tree c.args.choice.now.options.now)

-- and so does a lack of memory
pub returns-in_default-clause-ended : goal.returns-in_default-clause-ended
returns-in_default-clause-ended g c = (
  [],
  (
    appends_nothing (g.W.Output.contents c.args.out.now),
    subst (Appends (g.E.Write.contents c.args.err.now) (g.E.Write.contents c.report_all.new.err))
        (sym (append-nil (flat_map report_of (map (option_map problem_of) c.args.asked.errors.items))))
        (reported_as c.deref.result.now c.args.asked.errors.items (g.E.Write.contents c.args.err.now) (g.E.Write.contents c.report_all.new.err) c.deref.ensures.value c.in_ok-reported.ensures.reports.1),
  ),
  (λ tree honest none. inl refl),
  λ tree honest. none_judged tree c.args.choice.now.options.now,
)

pub returns-in_err-counts-clause-ended : goal.returns-in_err-counts-clause-ended
returns-in_err-counts-clause-ended g c =
    let h = c.in_err-counts.ensures.ended in
    let all = h.0 ++ h.1 ∷ [] in
    let o = c.args.choice.now.options.now in
    let p = err_from_is_err_and c.from_residual-in_err-counts.result c.from_residual-in_err-counts.ensures.1 in
    rw (p.1, p.2) (
      all,
      ends_after_reports (all_written o all) (flat_map report_of (map (option_map problem_of) c.args.asked.errors.items))
          (begun_told o (all_met all)) (Appends (g.W.Output.contents c.args.out.now) (g.W.Output.contents c.survey_all.new.out))
          (g.E.Write.contents c.args.err.now) (g.E.Write.contents c.report_all.new.err) (g.E.Write.contents c.survey_all.new.err)
          c.in_err-counts.field-0.0 (reported_as c.deref.result.now c.args.asked.errors.items (g.E.Write.contents c.args.err.now) (g.E.Write.contents c.report_all.new.err) c.deref.ensures.value c.in_ok-reported.ensures.reports.1) h.8,
      (λ tree honest none.
          let made = c.in-Ok.ensures.made tree honest in
          let begun = begun_of g.F.Files c.args.world.now.files.now seen_in (λ (r : OfShown). IsWhole) tree c.args.world.now.env.now o c.args.asked.walk honest none made.0
          made.1 c.in-Ok.matchers.items made.2 c.in-Ok.ensures.empty IsBegun h.2 h.4 h.3 h.0 (seen_in h.1) h.5 h.6 h.7 in
          inr (
            all_met h.0,
            seen_in h.1,
            begun.0,
            met_more h.0 h.1,
            begun.1,
            subst (λ (ps : List _). AreRootsBy tree c.args.world.now.env.now o c.args.asked.walk (ps ++ h.1.0 ∷ begun.0) begun.1) (roots_met h.0) begun.2,
            λ loads are.
                let facts = begun.3 loads are in
                (each_met (λ (r : OfRoot). IsWhole (scene tree loads c.args.asked.walk.settings begun.1 r.0) r.1) h.0 facts.0, facts.1),
          )),
      h.9,
    )

-- a report of the counts that can't be written ends it at last
pub returns-in_err-report_counts-clause-ended : goal.returns-in_err-report_counts-clause-ended
returns-in_err-report_counts-clause-ended g c =
    let p = err_from_is_err_and c.from_residual-in_err-report_counts.result c.from_residual-in_err-report_counts.ensures.1 in
    rw (p.1, p.2, c.in_err-report_counts.ensures.ended) ([], tt, (λ tree honest none. inl refl), λ tree honest. none_judged tree c.args.choice.now.options.now)

-- all roots are surveyed, and the problems of the files that are named count with theirs
pub returns-clause-lists : goal.returns-clause-lists
returns-clause-lists g c =
    let h = c.in_ok-counts.ensures.lists in
    let o = c.args.choice.now.options.now in
    let problems = map (option_map problem_of) c.args.asked.errors.items in
    let wrong = wrong_as c.deref.result.now c.args.asked.errors.items c.saturating_add.result c.in_ok-counts.counts.reported
    c.in_ok-reported.reported (counted 0 (map (is_wrong o) (all_seen (all_met h.0)))) c.deref.ensures.value c.saturating_add.ensures
    c.in_ok-reported.ensures.reports.0 h.4 in (
      h.0,
      record {
        writes = h.2;
        reports = counts_told o.stats (flat_map report_of problems ++ all_told o (all_met h.0)) _ _ _ _ (g.E.Write.contents c.args.err.now)
            (g.E.Write.contents c.survey_all.new.err) (g.E.Write.contents c.report_counts.new.err)
            (appends_on (g.E.Write.contents c.args.err.now) (g.E.Write.contents c.report_all.new.err) (g.E.Write.contents c.survey_all.new.err) (flat_map report_of problems) (all_told o (all_met h.0))
            (reported_as c.deref.result.now c.args.asked.errors.items (g.E.Write.contents c.args.err.now) (g.E.Write.contents c.report_all.new.err) c.deref.ensures.value c.in_ok-reported.ensures.reports.1) h.3)
            c.in_ok-report_counts.ensures.reports wrong h.5;
        ends = status_as c.status_of.result c.saturating_add.result c.in_ok-counts.counts.found _ _ c.status_of.ensures wrong h.5;
      },
      (λ tree honest none.
          let made = c.in-Ok.ensures.made tree honest in
          let roots = roots_of g.F.Files c.args.world.now.files.now seen_in (λ (r : OfShown). IsWhole) tree c.args.world.now.env.now o c.args.asked.walk honest none made.0
          made.1 c.in-Ok.matchers.items made.2 c.in-Ok.ensures.empty h.0 h.1 in (
            roots.0,
            subst (λ (ps : List _). AreRootsBy tree c.args.world.now.env.now o c.args.asked.walk ps roots.0) (roots_met h.0) roots.1,
            λ loads are. each_met (λ (r : OfRoot). IsWhole (scene tree loads c.args.asked.walk.settings roots.0 r.0) r.1) h.0 (roots.2 loads are),
          )),
      h.6,
    )
