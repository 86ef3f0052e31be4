use Rattle.std.proofs.Common.{[], inl, inr}
use Rattle.std.proofs.lemmas.Result.{IfErr-weaker, IfOk-weaker, err_from_is_err_and}
use Rattle.std.specs.Io.KnownBytes.{Appends}
use Rattle.commands.proofs.LineLemmas.{appends_nothing}
use Rattle.ig_commands.proofs.SameLemmas.{is_input_as}
use Rattle.ig_commands.proofs.StopLemmas.{ends_read}
use Rattle.ig_commands.proofs.same.same.Goals as goal

-- standard input can't be read
pub returns-in_err-bytes-clause-ended : goal.returns-in_err-bytes-clause-ended
returns-in_err-bytes-clause-ended g c =
    let p = err_from_is_err_and c.from_residual.result c.from_residual.ensures.1 in
    let out = g.W.Output.contents c.args.out.now in
    let err = g.E.Write.contents c.args.err.now in
    rw (p.1, p.2) (inl (ends_read [] [] (Appends out out) (Appends err err) c.in_err-bytes.field-0.0 c.in_err-bytes.ensures.ended
    (appends_nothing out) (appends_nothing err)))

-- out of memory for the rules
pub returns-in_default-clause-ended : goal.returns-in_default-clause-ended
returns-in_default-clause-ended g c =
    inl (inl (appends_nothing (g.W.Output.contents c.args.out.now), appends_nothing (g.E.Write.contents c.args.err.now)))

pub returns-clause-compares : goal.returns-clause-compares
returns-clause-compares g c =
    IfOk-weaker c.report_and_compare.result _ _
    (λ status h. (
      c.as_slice.result.now,
      is_input_as c.args.asked.options.now (g.R.Read.remaining c.args.input) c.in_ok-bytes.bytes.items c.as_slice.result.now c.as_slice.ensures.value c.in_ok-bytes.ensures.read,
      c.in-Ok.sides,
      h,
      λ tree honest. c.in-Ok.ensures.read tree honest,
    ))
    c.report_and_compare.ensures.compares

pub returns-clause-ended : goal.returns-clause-ended
returns-clause-ended g c =
    IfErr-weaker c.report_and_compare.result _ _
    (λ stop h. inr (
      c.as_slice.result.now,
      is_input_as c.args.asked.options.now (g.R.Read.remaining c.args.input) c.in_ok-bytes.bytes.items c.as_slice.result.now c.as_slice.ensures.value c.in_ok-bytes.ensures.read,
      c.in-Ok.sides,
      h,
      λ tree honest. c.in-Ok.ensures.read tree honest,
    ))
    c.report_and_compare.ensures.ended
