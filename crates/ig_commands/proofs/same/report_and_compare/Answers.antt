use Rattle.std.proofs.Common.{◌≡◌, Bool, false, [], inl, inr, refl, subst, sym}
use Rattle.std.proofs.lemmas.Result.{err_from_is_err_and}
use Rattle.std.specs.Io.KnownBytes.{Appends}
use Rattle.ig_commands.specs.Same.{EndsComparing}
use Rattle.ig_commands.proofs.SameLemmas.{compared, ends_refused, ends_writing, refused_both, unread_one}
use Rattle.ig_commands.proofs.same.report_and_compare.Goals as goal

-- a report that can't be written ends it
pub returns-in_err-reported-clause-ended : goal.returns-in_err-reported-clause-ended
returns-in_err-reported-clause-ended g c =
    let p = err_from_is_err_and c.from_residual.result c.from_residual.ensures.1 in
    rw (p.1, p.2, c.in_err-reported.ensures.ended) (inl tt)

-- a file can't be read
pub returns-then-is_one_unread-clause-compares : goal.returns-then-is_one_unread-clause-compares
returns-then-is_one_unread-clause-compares g c =
    unread_one c.args.asked.options.now c.args.asked.most c.args.sides.now c.is_one_unread.result (g.W.Output.contents c.args.out.now) (g.E.Write.contents c.args.err.now)
    (g.E.Write.contents c.report_sides.new.err) c.if-is_one_unread.true c.is_one_unread.ensures c.in_ok-reported.ensures.reports.1

pub returns-in_ok-write_differences-in-Ok-clause-compares : goal.returns-in_ok-write_differences-in-Ok-clause-compares
returns-in_ok-write_differences-in-Ok-clause-compares g c =
    compared c.args.asked.options.now c.args.asked.most c.args.sides.now c.wanted_by.result c.as_slice-found.result.now c.in-Ok.found.items c.in_ok-reported.reported c.do_differ.result
    c.is_one_unread.result c.status_by.result (g.W.Output.contents c.args.out.now) (g.W.Output.contents c.write_differences.new.out)
    (g.E.Write.contents c.args.err.now) (g.E.Write.contents c.report_sides.new.err) c.if-is_one_unread.false c.is_one_unread.ensures
    c.wanted_by.ensures c.as_slice-found.ensures.value c.in-Ok.ensures c.in_ok-reported.ensures.reports.0
    c.do_differ.ensures c.status_by.ensures c.in_ok-write_differences-in-Ok.ensures.writes c.in_ok-reported.ensures.reports.1

pub returns-in_err-write_differences-in-Ok-clause-ended : goal.returns-in_err-write_differences-in-Ok-clause-ended
returns-in_err-write_differences-in-Ok-clause-ended g c =
    let p = err_from_is_err_and c.from_residual-in_err-write_differences-in-Ok.result c.from_residual-in_err-write_differences-in-Ok.ensures.1 in
    rw (p.1, p.2) (ends_writing c.args.asked.options.now c.args.asked.most c.args.sides.now c.wanted_by.result c.as_slice-found.result.now c.in-Ok.found.items
    (Appends (g.W.Output.contents c.args.out.now) (g.W.Output.contents c.write_differences.new.out)) (g.E.Write.contents c.args.err.now)
    (g.E.Write.contents c.report_sides.new.err) c.in_err-write_differences-in-Ok.field-0.0 c.wanted_by.ensures c.as_slice-found.ensures.value c.in-Ok.ensures
    c.in_ok-reported.ensures.reports.1 c.in_err-write_differences-in-Ok.ensures.ended)

-- the files can't be compared
pub returns-in-Err-clause-compares : goal.returns-in-Err-clause-compares
returns-in-Err-clause-compares g c =
    refused_both c.refuse_comparison.result c.args.asked.options.now c.args.asked.most c.args.sides.now c.is_one_unread.result c.in-Err.refused
    (g.W.Output.contents c.args.out.now) (g.E.Write.contents c.args.err.now) (g.E.Write.contents c.report_sides.new.err)
    (g.E.Write.contents c.refuse_comparison.new.err) c.if-is_one_unread.false c.is_one_unread.ensures c.in_ok-reported.ensures.reports.1
    c.refuse_comparison.ensures.reports c.refuse_comparison.ensures.known

pub returns-in-Err-clause-ended : goal.returns-in-Err-clause-ended
returns-in-Err-clause-ended g c =
    ends_refused c.refuse_comparison.result c.args.asked.options.now c.args.asked.most c.args.sides.now (g.W.Output.contents c.args.out.now)
    (g.E.Write.contents c.args.err.now) (g.E.Write.contents c.report_sides.new.err) (g.E.Write.contents c.refuse_comparison.new.err)
    c.in_ok-reported.ensures.reports.1 c.refuse_comparison.ensures.ended c.refuse_comparison.ensures.kept
