use Rattle.std.proofs.Common.{◌∷◌, ◌++◌, [], List, false, true, inl, inr, map, option_map, refl, subst, sym}
use Rattle.std.proofs.lemmas.List.{append-nil}
use Rattle.std.proofs.lemmas.Result.{err_from_is_err_and}
use Rattle.std.specs.Io.KnownBytes.{Appends}
use Rattle.std.specs.List.{flat_map}
use Rattle.commands.proofs.LineLemmas.{appends_nothing, appends_on}
use Rattle.ignore_base.specs.Problem.{problem_of}
use Rattle.ignore_dir.specs.Scene.{scene}
use Rattle.ignore_why.specs.Cited.{Named}
use Rattle.ig_commands.specs.Counts.{counted}
use Rattle.ig_commands.specs.Found.{Finds, deciding, met, read_in}
use Rattle.ig_commands.specs.Reports.{report_of}
use Rattle.ig_commands.specs.Surveys.{AreRootsBy, IsBegun, OfRoot, all_seen, all_told, begun_told, is_wrong}
use Rattle.ig_commands.proofs.EndLemmas.{ends_out, ends_write}
use Rattle.ig_commands.proofs.GrowLemmas.{grown_at}
use Rattle.ig_commands.proofs.ReportLemmas.{counts_told, reported_as, status_as, wrong_as}
use Rattle.ig_commands.proofs.StopLemmas.{ends_after_reports}
use Rattle.ig_commands.proofs.SurveyLemmas.{begun_of, roots_of}
use Rattle.ig_commands.proofs.UnusedLemmas.{are_unused, names_met, whole_met, written_as}
use Rattle.ig_commands.proofs.unused.report_and_find.Goals as goal

-- a report that can't be written ends it before it surveys
pub returns-in_err-reported-clause-ended : goal.returns-in_err-reported-clause-ended
returns-in_err-reported-clause-ended g c =
    let p = err_from_is_err_and c.from_residual.result c.from_residual.ensures.1 in
    rw (p.1, p.2, c.in_err-reported.ensures.ended) ([], false, tt, λ tree honest none. inl refl)

-- and so does a lack of memory
pub returns-in_default-clause-ended : goal.returns-in_default-clause-ended
returns-in_default-clause-ended g c = (
  [],
  false,
  (
    appends_nothing (g.W.Output.contents c.args.out.now),
    subst (Appends (g.E.Write.contents c.args.err.now) (g.E.Write.contents c.report_all.new.err))
        (sym (append-nil (flat_map report_of (map (option_map problem_of) c.args.asked.errors.items))))
        (reported_as c.deref.result.now c.args.asked.errors.items (g.E.Write.contents c.args.err.now) (g.E.Write.contents c.report_all.new.err) c.deref.ensures.value c.in_ok-reported.ensures.reports.1),
  ),
  λ tree honest none. inl refl,
)

pub returns-in_err-more-clause-ended : goal.returns-in_err-more-clause-ended
returns-in_err-more-clause-ended g c =
    let h = c.in_err-more.ensures.ended in
    let all = met h.0 ++ h.1 ∷ [] in
    let o = c.args.options.now in
    let out = g.W.Output.contents c.args.out.now in
    let p = err_from_is_err_and c.from_residual-in_err-more.result c.from_residual-in_err-more.ensures.1 in
    rw (p.1, p.2) (
      all,
      false,
      ends_after_reports [] (flat_map report_of (map (option_map problem_of) c.args.asked.errors.items))
          (begun_told o all) (Appends out out)
          (g.E.Write.contents c.args.err.now) (g.E.Write.contents c.report_all.new.err) (g.E.Write.contents c.find_all.new.err)
          c.in_err-more.field-0.0
          (reported_as c.deref.result.now c.args.asked.errors.items (g.E.Write.contents c.args.err.now) (g.E.Write.contents c.report_all.new.err) c.deref.ensures.value c.in_ok-reported.ensures.reports.1)
          (ends_out (begun_told o all) out
          (Appends (g.E.Write.contents c.report_all.new.err) (g.E.Write.contents c.find_all.new.err)) c.in_err-more.field-0.0 h.8),
      λ tree honest none.
          let made = c.in-Ok.ensures.made tree honest in
          let begun = begun_of g.F.Files c.args.world.now.files.now (λ (x : OfRoot × List Named). x.0) (λ (x : OfRoot × List Named). Finds x.1)
          tree c.args.world.now.env.now o c.args.asked.walk honest none made.0
          made.1 c.in-Ok.matchers.items made.2 c.in-Ok.ensures.empty IsBegun h.2 h.4 h.3 h.0 h.1 h.5 h.6 h.7 in
          inr (
            met h.0,
            h.1,
            begun.0,
            refl,
            begun.1,
            subst (λ (ps : List _). AreRootsBy tree c.args.world.now.env.now o c.args.asked.walk (ps ++ h.1.0 ∷ begun.0) begun.1) (names_met h.0) begun.2,
            λ loads are.
                let facts = begun.3 loads are in
                (whole_met (λ root. scene tree loads c.args.asked.walk.settings begun.1 root) h.0 facts.0, facts.1),
          ),
    )

-- the rules can't be written: all roots are surveyed
pub returns-in_err-unused-clause-ended : goal.returns-in_err-unused-clause-ended
returns-in_err-unused-clause-ended g c =
    let h = c.in_ok-more.ensures.found in
    let o = c.args.options.now in
    let problems = map (option_map problem_of) c.args.asked.errors.items in
    let p = err_from_is_err_and c.from_residual-in_err-unused.result c.from_residual-in_err-unused.ensures.1 in
    rw (p.1, p.2) (
      met h.0,
      true,
      ends_write (flat_map report_of problems ++ all_told o (met h.0))
          (Appends (g.W.Output.contents c.args.out.now) (g.W.Output.contents c.write_without.new.out))
          (Appends (g.E.Write.contents c.args.err.now) (g.E.Write.contents c.find_all.new.err)) c.in_err-unused.field-0.0 c.in_err-unused.ensures.ended
          (appends_on (g.E.Write.contents c.args.err.now) (g.E.Write.contents c.report_all.new.err) (g.E.Write.contents c.find_all.new.err)
          (flat_map report_of problems) (all_told o (met h.0))
          (reported_as c.deref.result.now c.args.asked.errors.items (g.E.Write.contents c.args.err.now) (g.E.Write.contents c.report_all.new.err) c.deref.ensures.value c.in_ok-reported.ensures.reports.1) h.2),
      λ tree honest none.
          let made = c.in-Ok.ensures.made tree honest in
          let roots = roots_of g.F.Files c.args.world.now.files.now (λ (x : OfRoot × List Named). x.0) (λ (x : OfRoot × List Named). Finds x.1)
          tree c.args.world.now.env.now o c.args.asked.walk honest none made.0
          made.1 c.in-Ok.matchers.items made.2 c.in-Ok.ensures.empty h.0 h.1 in (
            roots.0,
            subst (λ (ps : List _). AreRootsBy tree c.args.world.now.env.now o c.args.asked.walk ps roots.0) (names_met h.0) roots.1,
            λ loads are. whole_met (λ root. scene tree loads c.args.asked.walk.settings roots.0 root) h.0 (roots.2 loads are),
          ),
    )

-- a report of the counts that can't be written ends it at last
pub returns-in_err-report_counts-clause-ended : goal.returns-in_err-report_counts-clause-ended
returns-in_err-report_counts-clause-ended g c =
    let p = err_from_is_err_and c.from_residual-in_err-report_counts.result c.from_residual-in_err-report_counts.ensures.1 in
    rw (p.1, p.2, c.in_err-report_counts.ensures.ended) ([], false, tt, λ tree honest none. inl refl)

pub returns-clause-lists : goal.returns-clause-lists
returns-clause-lists g c =
    let h = c.in_ok-more.ensures.found in
    let w = c.in_ok-unused.ensures.writes in
    let o = c.args.options.now in
    let problems = map (option_map problem_of) c.args.asked.errors.items in
    let wrong = wrong_as c.deref.result.now c.args.asked.errors.items c.saturating_add.result c.in_ok-more.more
    c.in_ok-reported.reported (counted 0 (map (is_wrong o) (all_seen (met h.0)))) c.deref.ensures.value c.saturating_add.ensures
    c.in_ok-reported.ensures.reports.0 h.3 in (
      met h.0,
      w.0,
      record {
        writes = written_as o w.0 _ _ (g.W.Output.contents c.args.out.now) (g.W.Output.contents c.write_without.new.out) c.form_of.ensures.base c.form_of.ensures.null w.3;
        reports = counts_told o.stats (flat_map report_of problems ++ all_told o (met h.0)) _ _ _ _ (g.E.Write.contents c.args.err.now)
            (g.E.Write.contents c.find_all.new.err) (g.E.Write.contents c.report_counts.new.err)
            (appends_on (g.E.Write.contents c.args.err.now) (g.E.Write.contents c.report_all.new.err) (g.E.Write.contents c.find_all.new.err) (flat_map report_of problems) (all_told o (met h.0))
            (reported_as c.deref.result.now c.args.asked.errors.items (g.E.Write.contents c.args.err.now) (g.E.Write.contents c.report_all.new.err) c.deref.ensures.value c.in_ok-reported.ensures.reports.1) h.2)
            c.in_ok-report_counts.ensures.reports wrong w.2;
        ends = status_as c.status_of.result c.saturating_add.result c.in_ok-unused.unused _ _ c.status_of.ensures wrong w.2;
      },
      λ tree honest none.
          let made = c.in-Ok.ensures.made tree honest in
          let roots = roots_of g.F.Files c.args.world.now.files.now (λ (x : OfRoot × List Named). x.0) (λ (x : OfRoot × List Named). Finds x.1)
          tree c.args.world.now.env.now o c.args.asked.walk honest none made.0
          made.1 c.in-Ok.matchers.items made.2 c.in-Ok.ensures.empty h.0 h.1 in (
            roots.0,
            subst (λ (ps : List _). AreRootsBy tree c.args.world.now.env.now o c.args.asked.walk ps roots.0) (names_met h.0) roots.1,
            λ loads are.
                let at = λ (root : List _). scene tree loads c.args.asked.walk.settings roots.0 root in (
                  whole_met at h.0 (roots.2 loads are),
                  λ lists. are_unused at h.0 c.find_all.new.found.read c.find_all.new.found.used (roots.2 loads are) lists
                      (grown_at (read_in h.0) c.new-found.result.read c.find_all.new.found.read (λ source line. (c.new-found.ensures.none source line).0) h.5)
                      (grown_at (deciding (all_seen (met h.0))) c.new-found.result.used c.find_all.new.found.used
                      (λ source line. (c.new-found.ensures.none source line).1) h.4)
                      w.0 w.1,
                ),
          ),
    )
