use Rattle.std.proofs.Common.{[], List, inl, inr, refl, subst}
use Rattle.std.proofs.lemmas.Result.{err_from_is_err_and}
use Rattle.std.specs.Io.KnownBytes.{Appends}
use Rattle.std.specs.List.{flat_map}
use Rattle.commands.proofs.LineLemmas.{appends_nothing}
use Rattle.ignore_base.specs.Problem.{problem_of}
use Rattle.ignore_types.specs.Types.{Definition}
use Rattle.ig_options.specs.Choices.{RefusesDefinitions}
use Rattle.ig_commands.specs.Types.{type_line}
use Rattle.ig_commands.proofs.EndLemmas.{ends_write}
use Rattle.ig_commands.proofs.StopLemmas.{ends_at_once, refused}
use Rattle.ig_commands.proofs.types.list_types.Goals as goal

pub returns-in_ok-write_types-in-Ok-clause-lists : goal.returns-in_ok-write_types-in-Ok-clause-lists
returns-in_ok-write_types-in-Ok-clause-lists g c =
    let h = c.in-Ok.ensures.copies in
    inl (
      h.0,
      c.in-Ok.definitions.items,
      h.1,
      h.2,
      c.in-Ok.ensures.by_name,
      refl,
      subst (λ (ds : List Definition). Appends (g.W.Output.contents c.args.out.now) (g.W.Output.contents c.write_types.new.out) (flat_map type_line ds))
          c.deref.ensures.value c.in_ok-write_types-in-Ok.ensures.writes,
      appends_nothing (g.E.Write.contents c.args.err.now),
    )

-- a line can't be written
pub returns-in_err-write_types-in-Ok-clause-ended : goal.returns-in_err-write_types-in-Ok-clause-ended
returns-in_err-write_types-in-Ok-clause-ended g c =
    let p = err_from_is_err_and c.from_residual.result c.from_residual.ensures.1 in
    let err = g.E.Write.contents c.args.err.now in
    rw (p.1, p.2) (ends_write [] (Appends (g.W.Output.contents c.args.out.now) (g.W.Output.contents c.write_types.new.out)) (Appends err err)
    c.in_err-write_types-in-Ok.field-0.0 c.in_err-write_types-in-Ok.ensures.ended (appends_nothing err))

-- the options are rejected
pub returns-in-Err-clause-lists : goal.returns-in-Err-clause-lists
returns-in-Err-clause-lists g c =
    let e = c.in-Err.error in
    refused c.refuse_or_end.result (problem_of e) (RefusesDefinitions c.args.options.now.type_add c.args.first) _ _ c.in-Err.ensures.refused c.refuse_or_end.ensures.enough c.refuse_or_end.ensures.reports
    (λ status other is h. inr (problem_of e, other, is, appends_nothing (g.W.Output.contents c.args.out.now), h))

-- or memory ran out, or they can't be reported
pub returns-in-Err-clause-ended : goal.returns-in-Err-clause-ended
returns-in-Err-clause-ended g c =
    let out = g.W.Output.contents c.args.out.now in
    ends_at_once c.refuse_or_end.result out (g.E.Write.contents c.args.err.now) (g.E.Write.contents c.refuse_or_end.new.err)
    c.refuse_or_end.ensures.ended c.refuse_or_end.ensures.kept _ (λ stop h. h)
