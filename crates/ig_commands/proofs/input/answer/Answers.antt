use Rattle.std.proofs.Common.{◌≡◌, ◌∙◌, ap, string_bytes, subst}
use Rattle.std.proofs.lemmas.Result.{err_from_is_err_and}
use Rattle.std.specs.Io.KnownBytes.{Appends}
use Rattle.commands.proofs.LineLemmas.{appends_nothing}
use Rattle.ignore_query.specs.declared.asked.Asked.{Asked}
use Rattle.ig_commands.specs.Why.{Said, reports, said_of, written}
use Rattle.ig_commands.proofs.input.answer.Goals as goal

-- what the record gives is asked about, and what becomes of it is written
pub returns-clause-answers : goal.returns-clause-answers
returns-clause-answers g c =
    let one : Said = said_of c.in_ok-said.said in
    let first = c.args.matcher.now in
    let root : c.root.result.now ≡ string_bytes first.asked.root =
    c.root.ensures ∙ ap (λ (a : Asked). string_bytes a.root) c.in_ok-said.ensures.same in (
      c.in-Ok.given,
      one,
      c.in-Ok.ensures.given,
      subst (λ r. Appends (g.W.Output.contents c.args.out.now) (g.W.Output.contents c.write_said.new.out) (written c.args.asking.now.options.now r one)) root
          c.in_ok-seen.ensures.writes,
      subst (λ r. Appends (g.E.Write.contents c.args.err.now) (g.E.Write.contents c.write_said.new.err) (reports c.args.asking.now.options.now r one)) root
          c.in_ok-seen.ensures.reports,
      c.in_ok-seen.ensures.reported,
      c.in_ok-seen.ensures.found,
      λ tree loads honest are agrees.
          (c.in_ok-said.ensures.said tree loads honest are agrees, c.in_ok-said.ensures.agrees tree loads honest are agrees),
    )

-- out of memory for what it gives
pub returns-in_default-clause-ended : goal.returns-in_default-clause-ended
returns-in_default-clause-ended g c = (appends_nothing (g.W.Output.contents c.args.out.now), appends_nothing (g.E.Write.contents c.args.err.now))

-- or for what becomes of that
pub returns-in_err-said-clause-ended : goal.returns-in_err-said-clause-ended
returns-in_err-said-clause-ended g c =
    let p = err_from_is_err_and c.from_residual.result c.from_residual.ensures.1 in
    rw (p.1, p.2, c.in_err-said.ensures.ended) (appends_nothing (g.W.Output.contents c.args.out.now), appends_nothing (g.E.Write.contents c.args.err.now))

-- or what becomes of it can't be written
pub returns-in_err-seen-clause-ended : goal.returns-in_err-seen-clause-ended
returns-in_err-seen-clause-ended g c =
    let p = err_from_is_err_and c.from_residual-in_err-seen.result c.from_residual-in_err-seen.ensures.1 in
    rw (p.1, p.2) c.in_err-seen.ensures.ended
