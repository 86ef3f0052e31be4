use Rattle.std.proofs.Common.{[], inl, inr, map, option_map, refl, string_bytes, subst, sym}
use Rattle.std.proofs.lemmas.List.{append-nil}
use Rattle.std.proofs.lemmas.Result.{err_from_is_err_and}
use Rattle.std.specs.Io.KnownBytes.{Appends}
use Rattle.std.specs.List.{flat_map}
use Rattle.commands.proofs.LineLemmas.{appends_nothing, appends_on}
use Rattle.ignore_base.specs.Problem.{problem_of}
use Rattle.ig_commands.specs.Reports.{report_of}
use Rattle.ig_commands.specs.Why.{reports, written}
use Rattle.ig_commands.proofs.InputLemmas.{none_first}
use Rattle.ig_commands.proofs.ReportLemmas.{reported_as, status_as, wrong_as}
use Rattle.ig_commands.proofs.StopLemmas.{ends_reading_reports}
use Rattle.ig_commands.proofs.WhyLemmas.{all_of, first_of}
use Rattle.ig_commands.proofs.input.report_and_answer.Goals as goal

-- a report that can't be written ends it before it asks
pub returns-in_err-reported-clause-ended : goal.returns-in_err-reported-clause-ended
returns-in_err-reported-clause-ended g c =
    let p = err_from_is_err_and c.from_residual.result c.from_residual.ensures.1 in
    rw (p.1, p.2, c.in_err-reported.ensures.ended)
    ([], [], [], none_first c.args.asking.now.options.now (g.R.Read.remaining c.args.input), inl tt, λ tree honest. inl refl)

-- and so does a lack of memory
pub returns-in_default-clause-ended : goal.returns-in_default-clause-ended
returns-in_default-clause-ended g c = (
  [],
  [],
  [],
  none_first c.args.asking.now.options.now (g.R.Read.remaining c.args.input),
  inl (
    appends_nothing (g.W.Output.contents c.args.out.now),
    subst (Appends (g.E.Write.contents c.args.err.now) (g.E.Write.contents c.report_all.new.err))
        (sym (append-nil (flat_map report_of (map (option_map problem_of) c.args.asked.errors.items))))
        (reported_as c.deref.result.now c.args.asked.errors.items (g.E.Write.contents c.args.err.now) (g.E.Write.contents c.report_all.new.err) c.deref.ensures.value c.in_ok-reported.ensures.reports.1),
  ),
  λ tree honest. inl refl,
)

pub returns-in_err-counts-clause-ended : goal.returns-in_err-counts-clause-ended
returns-in_err-counts-clause-ended g c =
    let m = c.in-Ok.matcher in
    let o = c.args.asking.now.options.now in
    let h = c.in_err-counts.ensures.ended in
    let root = string_bytes m.asked.root in
    let p = err_from_is_err_and c.from_residual-in_err-counts.result c.from_residual-in_err-counts.ensures.1 in
    rw (p.1, p.2) (
      root,
      h.0,
      h.1,
      h.3,
      ends_reading_reports (flat_map (written o root) h.1)
          (flat_map report_of (map (option_map problem_of) c.args.asked.errors.items)) (flat_map (reports c.args.asking.now.options.now root) h.1)
          (Appends (g.W.Output.contents c.args.out.now) (g.W.Output.contents c.answer_all.new.out))
          (g.E.Write.contents c.args.err.now) (g.E.Write.contents c.report_all.new.err) (g.E.Write.contents c.answer_all.new.err)
          c.in_err-counts.field-0.0 (reported_as c.deref.result.now c.args.asked.errors.items (g.E.Write.contents c.args.err.now) (g.E.Write.contents c.report_all.new.err) c.deref.ensures.value c.in_ok-reported.ensures.reports.1) h.4,
      λ tree honest. inr (first_of tree c.args.asking.now.world.now.env.now c.args.asked.walk m h.0 h.0 [] h.1 h.2
          (c.in-Ok.ensures.asked tree honest) c.in-Ok.ensures.empty (sym (append-nil h.0))
          (λ loads are. h.5 tree loads honest are (c.in-Ok.ensures.fresh tree loads))),
    )

-- all that is given is answered, and the problems of the files that are named count with theirs
pub returns-clause-answers : goal.returns-clause-answers
returns-clause-answers g c =
    let m = c.in-Ok.matcher in
    let h = c.in_ok-counts.ensures.answers in
    let problems = map (option_map problem_of) c.args.asked.errors.items in (
      string_bytes m.asked.root,
      h.0,
      h.1,
      h.2,
      record {
        writes = h.3;
        reports = appends_on (g.E.Write.contents c.args.err.now) (g.E.Write.contents c.report_all.new.err) (g.E.Write.contents c.answer_all.new.err)
            (flat_map report_of problems) (flat_map (reports c.args.asking.now.options.now (string_bytes m.asked.root)) h.1) (reported_as c.deref.result.now c.args.asked.errors.items (g.E.Write.contents c.args.err.now) (g.E.Write.contents c.report_all.new.err) c.deref.ensures.value c.in_ok-reported.ensures.reports.1) h.4;
        ends = status_as c.status_of.result c.saturating_add.result c.in_ok-counts.counts.found _ _ c.status_of.ensures
            (wrong_as c.deref.result.now c.args.asked.errors.items c.saturating_add.result c.in_ok-counts.counts.reported c.in_ok-reported.reported _
            c.deref.ensures.value c.saturating_add.ensures c.in_ok-reported.ensures.reports.0 h.5) h.6;
      },
      λ tree honest. all_of tree c.args.asking.now.world.now.env.now c.args.asked.walk m h.0 h.1 c.answer_all.new.matcher.cache
          (c.in-Ok.ensures.asked tree honest) c.in-Ok.ensures.empty
          (λ loads are. h.7 tree loads honest are (c.in-Ok.ensures.fresh tree loads)),
    )
