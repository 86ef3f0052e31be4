use Rattle.std.proofs.Common.{List, [], ℕ, None, arith, inl, inr, refl}
use Rattle.std.proofs.lemmas.Result.{err_from_is_err_and}
use Rattle.std.specs.Io.Buffered.{writer_contents}
use Rattle.std.specs.Io.KnownBytes.{Appends}
use Rattle.std.specs.List.{flat_map}
use Rattle.commands.specs.declared.stop.Stop.TheVariants.{Memory, Write}
use Rattle.commands.specs.Checking.{line_for, report_for}
use Rattle.commands.specs.Listing.{lines_of, reports_of}
use Rattle.commands.specs.Stops.{BreaksOff, SaidBy, reason}
use Rattle.commands.proofs.BufferLemmas.{checks_over, ends_after_over, ends_over, lists_over, prints_over, written_on}
use Rattle.commands.proofs.GoneLemmas.{after_gone, after_reported, check_first, check_low, check_so_far, cut_none, cut_whole, gone_none, gone_whole}
use Rattle.commands.proofs.GoneLemmas.{list_low, question_ended}
use Rattle.commands.proofs.LineLemmas.{appends_on}
use Rattle.commands.proofs.StopLemmas.{cut_after}
use Rattle.commands.proofs.program.run_buffered.Goals as goal

pub returns-in-Some-clause-wrong : goal.returns-in-Some-clause-wrong
returns-in-Some-clause-wrong g c = λ is.
    let contents = g.W.Write.contents in (
      (c.in_ok-status.ensures.usage is).0,
      written_on contents c.args.out _ _ _ (contents c.in-Some.out) [] c.in-Ok.ensures.inner c.in-Ok.ensures.empty c.in-Some.ensures
          (c.in_ok-status.ensures.wrong is),
    )

-- what holds of the buffered output holds of the one after it
pub returns-in-Some-clause-prints : goal.returns-in-Some-clause-prints
returns-in-Some-clause-prints g c = λ question is.
    let contents = g.W.Write.contents in
    let out = Appends (writer_contents contents c.in-Ok.buffered) (writer_contents contents c.run.new.out) in
    let over = Appends (contents c.args.out) (contents c.in-Some.out) in
    let err = Appends (g.E.Write.contents c.args.err.now) (g.E.Write.contents c.run.new.err) in
    let same : (bs : List ℕ) → out bs → over bs
    = λ bs h. written_on contents c.args.out _ _ _ (contents c.in-Some.out) bs c.in-Ok.ensures.inner c.in-Ok.ensures.empty
    c.in-Some.ensures h in
    elim (c.in_ok-status.ensures.prints question is) [
      | inl h ↦ inl (prints_over question _ out over err same h)
      | inr (two, h) ↦ inr (two, ends_over (SaidBy (λ kind. Unit {0})) question out over err same h)
    ]

pub returns-in-Some-clause-lists : goal.returns-in-Some-clause-lists
returns-in-Some-clause-lists g c = λ roots is.
    let contents = g.W.Write.contents in
    let out = Appends (writer_contents contents c.in-Ok.buffered) (writer_contents contents c.run.new.out) in
    let over = Appends (contents c.args.out) (contents c.in-Some.out) in
    let err = Appends (g.E.Write.contents c.args.err.now) (g.E.Write.contents c.run.new.err) in
    let same : (bs : List ℕ) → out bs → over bs
    = λ bs h. written_on contents c.args.out _ _ _ (contents c.in-Some.out) bs c.in-Ok.ensures.inner c.in-Ok.ensures.empty
    c.in-Some.ensures h in
    elim (c.in_ok-status.ensures.lists roots is) [
      | inl (items, h, are) ↦ inl (items, lists_over items _ out over err same h, are)
      | inr (two, items, next, h, begun) ↦ inr (two, items, next, ends_after_over (SaidBy (λ kind. Unit {0})) lines_of reports_of items next out over err same h, begun)
    ]

pub returns-in-Some-clause-checks : goal.returns-in-Some-clause-checks
returns-in-Some-clause-checks g c = λ root paths is.
    let contents = g.W.Write.contents in
    let out = Appends (writer_contents contents c.in-Ok.buffered) (writer_contents contents c.run.new.out) in
    let over = Appends (contents c.args.out) (contents c.in-Some.out) in
    let err = Appends (g.E.Write.contents c.args.err.now) (g.E.Write.contents c.run.new.err) in
    let same : (bs : List ℕ) → out bs → over bs
    = λ bs h. written_on contents c.args.out _ _ _ (contents c.in-Some.out) bs c.in-Ok.ensures.inner c.in-Ok.ensures.empty
    c.in-Some.ensures h in
    elim (c.in_ok-status.ensures.checks root paths is) [
      | inl (all, h, are) ↦ inl (all, checks_over paths all _ out over err same h, are)
      | inr (two, all, next, first, h, so_far) ↦
          inr (two, all, next, first, ends_after_over (SaidBy (λ kind. Unit {0})) line_for report_for all next out over err same h, so_far)
    ]

-- without memory for a buffer nothing is run
pub returns-in_default-clause-usage : goal.returns-in_default-clause-usage
returns-in_default-clause-usage g c = λ is. inr (refl, c.in_ok-report_stop.ensures.reports.2)

pub returns-in_default-clause-gone : goal.returns-in_default-clause-gone
returns-in_default-clause-gone g c = λ question is none.
    let k = c.in_ok-report_stop.ensures.reports in
    gone_none question (Appends (g.E.Write.contents c.args.err.now) (g.E.Write.contents c.report_stop.new.err)) k.1 k.2

pub returns-in_default-clause-gone_list : goal.returns-in_default-clause-gone_list
returns-in_default-clause-gone_list g c = λ roots is none.
    let k = c.in_ok-report_stop.ensures.reports in ([], None, (Memory, k.1, k.2), inl (inl (refl, refl)))

pub returns-in_default-clause-gone_check : goal.returns-in_default-clause-gone_check
returns-in_default-clause-gone_check g c = λ root paths is none.
    let k = c.in_ok-report_stop.ensures.reports in ([], None, (paths, refl), (Memory, k.1, k.2), λ tree honest. inl refl)

-- and where that can't be reported, a beginning of it is
pub returns-in_err-report_stop-clause-usage_unreported : goal.returns-in_err-report_stop-clause-usage_unreported
returns-in_err-report_stop-clause-usage_unreported g c = λ is.
    let k = c.in_err-report_stop.ensures.unreported in
    let p = err_from_is_err_and c.from_residual.result c.from_residual.ensures.1 in
    rw (p.1, p.2, k.0) (inr refl, k.1)

pub returns-in_err-report_stop-clause-unreported : goal.returns-in_err-report_stop-clause-unreported
returns-in_err-report_stop-clause-unreported g c = λ question is.
    let k = c.in_err-report_stop.ensures.unreported in
    let p = err_from_is_err_and c.from_residual.result c.from_residual.ensures.1 in
    rw (p.1, p.2, k.0) (cut_none question (Appends (g.E.Write.contents c.args.err.now) (g.E.Write.contents c.report_stop.new.err)) k.1)

pub returns-in_err-report_stop-clause-unreported_list : goal.returns-in_err-report_stop-clause-unreported_list
returns-in_err-report_stop-clause-unreported_list g c = λ roots is.
    let k = c.in_err-report_stop.ensures.unreported in
    let p = err_from_is_err_and c.from_residual.result c.from_residual.ensures.1 in
    rw (p.1, p.2, k.0) ([], None, k.1, inl (inl (refl, refl)))

pub returns-in_err-report_stop-clause-unreported_check : goal.returns-in_err-report_stop-clause-unreported_check
returns-in_err-report_stop-clause-unreported_check g c = λ root paths is.
    let k = c.in_err-report_stop.ensures.unreported in
    let p = err_from_is_err_and c.from_residual.result c.from_residual.ensures.1 in
    rw (p.1, p.2, k.0) ([], None, (paths, refl), k.1, λ tree honest. inl refl)

-- what a run reports that ends unreported
pub returns-in_err-status-clause-usage_unreported : goal.returns-in_err-status-clause-usage_unreported
returns-in_err-status-clause-usage_unreported g c = λ is.
    let h = c.in_err-status.ensures.usage_unreported is in
    let p = err_from_is_err_and c.from_residual-in_err-status.result c.from_residual-in_err-status.ensures.1 in
    rw (p.1, p.2, h.0) (inl refl, h.1)

pub returns-in_err-status-clause-unreported : goal.returns-in_err-status-clause-unreported
returns-in_err-status-clause-unreported g c = λ question is.
    let p = err_from_is_err_and c.from_residual-in_err-status.result c.from_residual-in_err-status.ensures.1 in
    rw (p.1, p.2) (c.in_err-status.ensures.unreported question is).1

pub returns-in_err-status-clause-unreported_list : goal.returns-in_err-status-clause-unreported_list
returns-in_err-status-clause-unreported_list g c = λ roots is.
    let h = c.in_err-status.ensures.unreported_list roots is in
    let stop = c.in_err-status.field-0.0 in
    let out = Appends (writer_contents g.W.Write.contents c.in-Ok.buffered) (writer_contents g.W.Write.contents c.run.new.out) in
    let err = Appends (g.E.Write.contents c.args.err.now) (g.E.Write.contents c.run.new.err) in
    let p = err_from_is_err_and c.from_residual-in_err-status.result c.from_residual-in_err-status.ensures.1 in
    rw (p.1, p.2) (
      h.0,
      h.1,
      after_gone lines_of reports_of h.0 h.1 out (λ bs. BreaksOff bs (reason stop) err) stop h.2,
      inl h.3,
    )

pub returns-in_err-status-clause-unreported_check : goal.returns-in_err-status-clause-unreported_check
returns-in_err-status-clause-unreported_check g c = λ root paths is.
    let h = c.in_err-status.ensures.unreported_check root paths is in
    let stop = c.in_err-status.field-0.0 in
    let out = Appends (writer_contents g.W.Write.contents c.in-Ok.buffered) (writer_contents g.W.Write.contents c.run.new.out) in
    let err = Appends (g.E.Write.contents c.args.err.now) (g.E.Write.contents c.run.new.err) in
    let p = err_from_is_err_and c.from_residual-in_err-status.result c.from_residual-in_err-status.ensures.1 in
    rw (p.1, p.2) (h.0, h.1, h.2, after_gone line_for report_for h.0 h.1 out (λ bs. BreaksOff bs (reason stop) err) stop h.3, h.4)

-- a whole run whose buffer can't be written reports that last
pub returns-in_ok-report_stop-in-None-clause-usage : goal.returns-in_ok-report_stop-in-None-clause-usage
returns-in_ok-report_stop-in-None-clause-usage g c = λ is. absurd (omega (arith, (c.in_ok-status.ensures.usage is).0, c.if-status-lt2.true))

pub returns-in_ok-report_stop-in-None-clause-gone : goal.returns-in_ok-report_stop-in-None-clause-gone
returns-in_ok-report_stop-in-None-clause-gone g c = λ question is none.
    let k = c.in_ok-report_stop-in-None.ensures.reports in
    gone_whole (SaidBy (λ kind. Unit {0})) question c.in_ok-status.status (Appends (writer_contents g.W.Write.contents c.in-Ok.buffered) (writer_contents g.W.Write.contents c.run.new.out)) (g.E.Write.contents c.args.err.now) (g.E.Write.contents c.run.new.err) (g.E.Write.contents c.report_stop-in-None.new.err)
    (c.in_ok-status.ensures.prints question is) c.if-status-lt2.true k.1 k.2

pub returns-in_ok-report_stop-in-None-clause-gone_list : goal.returns-in_ok-report_stop-in-None-clause-gone_list
returns-in_ok-report_stop-in-None-clause-gone_list g c = λ roots is none.
    let k = c.in_ok-report_stop-in-None.ensures.reports in
    elim (c.in_ok-status.ensures.lists roots is) [
      | inl (items, h, are) ↦ (
        items,
        None,
        (Write, k.1, appends_on (g.E.Write.contents c.args.err.now) (g.E.Write.contents c.run.new.err) (g.E.Write.contents c.report_stop-in-None.new.err) (flat_map reports_of items) (reason Write) h.reports k.2),
        inr are,
      )
      | inr (two, items, next, h, begun) ↦ absurd (omega (arith, two, c.if-status-lt2.true))
    ]

pub returns-in_ok-report_stop-in-None-clause-gone_check : goal.returns-in_ok-report_stop-in-None-clause-gone_check
returns-in_ok-report_stop-in-None-clause-gone_check g c = λ root paths is none.
    let k = c.in_ok-report_stop-in-None.ensures.reports in
    let out = Appends (writer_contents g.W.Write.contents c.in-Ok.buffered) (writer_contents g.W.Write.contents c.run.new.out) in
    let err = Appends (g.E.Write.contents c.args.err.now) (g.E.Write.contents c.run.new.err) in
    elim (c.in_ok-status.ensures.checks root paths is) [
      | inl (all, h, are) ↦ (
        all,
        None,
        check_first paths all c.in_ok-status.status out err h,
        (Write, k.1, appends_on (g.E.Write.contents c.args.err.now) (g.E.Write.contents c.run.new.err) (g.E.Write.contents c.report_stop-in-None.new.err) (flat_map report_for all) (reason Write) h.reports k.2),
        λ tree honest. check_so_far tree c.args.world.now.env.now root all (are tree honest),
      )
      | inr (two, all, next, first, h, so_far) ↦ absurd (omega (arith, two, c.if-status-lt2.true))
    ]

-- or a beginning of that
pub returns-in_err-report_stop-in-None-clause-usage_unreported : goal.returns-in_err-report_stop-in-None-clause-usage_unreported
returns-in_err-report_stop-in-None-clause-usage_unreported g c = λ is. absurd (omega (arith, (c.in_ok-status.ensures.usage is).0, c.if-status-lt2.true))

pub returns-in_err-report_stop-in-None-clause-unreported : goal.returns-in_err-report_stop-in-None-clause-unreported
returns-in_err-report_stop-in-None-clause-unreported g c = λ question is.
    let k = c.in_err-report_stop-in-None.ensures.unreported in
    let p = err_from_is_err_and c.from_residual-in_err-report_stop-in-None.result c.from_residual-in_err-report_stop-in-None.ensures.1 in
    rw (p.1, p.2, k.0) (
    cut_whole (SaidBy (λ kind. Unit {0})) question c.in_ok-status.status (Appends (writer_contents g.W.Write.contents c.in-Ok.buffered) (writer_contents g.W.Write.contents c.run.new.out)) (g.E.Write.contents c.args.err.now) (g.E.Write.contents c.run.new.err) (g.E.Write.contents c.report_stop-in-None.new.err)
    (c.in_ok-status.ensures.prints question is) c.if-status-lt2.true k.1
    )

pub returns-in_err-report_stop-in-None-clause-unreported_list : goal.returns-in_err-report_stop-in-None-clause-unreported_list
returns-in_err-report_stop-in-None-clause-unreported_list g c = λ roots is.
    let k = c.in_err-report_stop-in-None.ensures.unreported in
    let p = err_from_is_err_and c.from_residual-in_err-report_stop-in-None.result c.from_residual-in_err-report_stop-in-None.ensures.1 in
    rw (p.1, p.2, k.0) (elim (c.in_ok-status.ensures.lists roots is) [
      | inl (items, h, are) ↦ (
        items,
        None,
        cut_after (g.E.Write.contents c.args.err.now) (g.E.Write.contents c.run.new.err) (g.E.Write.contents c.report_stop-in-None.new.err) (flat_map reports_of items) (reason Write) h.reports k.1,
        inr are,
      )
      | inr (two, items, next, h, begun) ↦ absurd (omega (arith, two, c.if-status-lt2.true))
    ])

pub returns-in_err-report_stop-in-None-clause-unreported_check : goal.returns-in_err-report_stop-in-None-clause-unreported_check
returns-in_err-report_stop-in-None-clause-unreported_check g c = λ root paths is.
    let k = c.in_err-report_stop-in-None.ensures.unreported in
    let p = err_from_is_err_and c.from_residual-in_err-report_stop-in-None.result c.from_residual-in_err-report_stop-in-None.ensures.1 in
    let out = Appends (writer_contents g.W.Write.contents c.in-Ok.buffered) (writer_contents g.W.Write.contents c.run.new.out) in
    let err = Appends (g.E.Write.contents c.args.err.now) (g.E.Write.contents c.run.new.err) in
    rw (p.1, p.2, k.0) (elim (c.in_ok-status.ensures.checks root paths is) [
      | inl (all, h, are) ↦ (
        all,
        None,
        check_first paths all c.in_ok-status.status out err h,
        cut_after (g.E.Write.contents c.args.err.now) (g.E.Write.contents c.run.new.err) (g.E.Write.contents c.report_stop-in-None.new.err) (flat_map report_for all) (reason Write) h.reports k.1,
        λ tree honest. check_so_far tree c.args.world.now.env.now root all (are tree honest),
      )
      | inr (two, all, next, first, h, so_far) ↦ absurd (omega (arith, two, c.if-status-lt2.true))
    ])

-- a run with status 2 has reported why it ended
pub returns-in-None-2-clause-usage : goal.returns-in-None-2-clause-usage
returns-in-None-2-clause-usage g c = λ is. inl (c.in_ok-status.ensures.usage is).1

pub returns-in-None-2-clause-gone : goal.returns-in-None-2-clause-gone
returns-in-None-2-clause-gone g c = λ question is none.
    question_ended (SaidBy (λ kind. Unit {0})) question c.in_ok-status.status (Appends (writer_contents g.W.Write.contents c.in-Ok.buffered) (writer_contents g.W.Write.contents c.run.new.out)) (Appends (g.E.Write.contents c.args.err.now) (g.E.Write.contents c.run.new.err))
    (c.in_ok-status.ensures.prints question is) c.if-status-lt2.false

pub returns-in-None-2-clause-gone_list : goal.returns-in-None-2-clause-gone_list
returns-in-None-2-clause-gone_list g c = λ roots is none.
    let out = Appends (writer_contents g.W.Write.contents c.in-Ok.buffered) (writer_contents g.W.Write.contents c.run.new.out) in
    let err = Appends (g.E.Write.contents c.args.err.now) (g.E.Write.contents c.run.new.err) in
    elim (c.in_ok-status.ensures.lists roots is) [
      | inl (items, h, are) ↦ absurd (list_low items c.in_ok-status.status out err h c.if-status-lt2.false)
      | inr (two, items, next, h, begun) ↦
          (items, next, after_reported (SaidBy (λ kind. Unit {0})) lines_of reports_of items next out err h, inl begun)
    ]

pub returns-in-None-2-clause-gone_check : goal.returns-in-None-2-clause-gone_check
returns-in-None-2-clause-gone_check g c = λ root paths is none.
    let out = Appends (writer_contents g.W.Write.contents c.in-Ok.buffered) (writer_contents g.W.Write.contents c.run.new.out) in
    let err = Appends (g.E.Write.contents c.args.err.now) (g.E.Write.contents c.run.new.err) in
    elim (c.in_ok-status.ensures.checks root paths is) [
      | inl (all, h, are) ↦ absurd (check_low paths all c.in_ok-status.status out err h c.if-status-lt2.false)
      | inr (two, all, next, first, h, so_far) ↦ (all, next, first, after_reported (SaidBy (λ kind. Unit {0})) line_for report_for all next out err h, so_far)
    ]

-- the usage is reported as without a buffer
pub returns-in-Some-clause-usage : goal.returns-in-Some-clause-usage
returns-in-Some-clause-usage g c = λ is. inl (c.in_ok-status.ensures.usage is).1
