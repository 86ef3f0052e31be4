use Rattle.std.proofs.Common.{None, Some, option_map, refl}
use Rattle.std.proofs.lemmas.Result.{IfErr-weaker, IfOk-weaker, err_from_is_err_and}
use Rattle.ignore_base.specs.Problem.{problem_of}
use Rattle.commands.specs.Checking.{Checked, checked}
use Rattle.commands.proofs.LineLemmas.{appends_nothing}
use Rattle.commands.proofs.checking.check_path.Goals as goal

-- nothing is written of a path that memory didn't suffice to ask about
pub returns-in_err-found-clause-ended : goal.returns-in_err-found-clause-ended
returns-in_err-found-clause-ended g c =
    let p = err_from_is_err_and c.from_residual.result c.from_residual.ensures.1 in
    rw (p.1, p.2, c.in_err-found.ensures.ended) (
      None,
      (appends_nothing (g.W.Output.contents c.args.out.now), appends_nothing (g.E.Write.contents c.args.err.now)),
      tt,
    )

-- the path is answered by what was found, and its problem is reported
pub returns-clause-checks : goal.returns-clause-checks
returns-clause-checks g c =
    let one : Checked = checked c.args.path.now c.in_ok-found.found (option_map problem_of c.in_ok-found.error) in
    IfOk-weaker c.write_checked.result _ _
    (λ any h. (
      one,
      refl,
      h.0,
      h.1,
      h.2,
      λ tree loads honest are agrees. (
        c.in_ok-found.ensures.value tree loads honest are agrees,
        c.in_ok-found.ensures.reports tree loads honest are agrees,
      ),
    ))
    c.write_checked.ensures.writes

-- and so it is where that can't be written
pub returns-clause-ended : goal.returns-clause-ended
returns-clause-ended g c =
    let one : Checked = checked c.args.path.now c.in_ok-found.found (option_map problem_of c.in_ok-found.error) in
    IfErr-weaker c.write_checked.result _ _
    (λ stop h. (
      Some one,
      h,
      (
        refl,
        λ tree loads honest are agrees. (
          c.in_ok-found.ensures.value tree loads honest are agrees,
          c.in_ok-found.ensures.reports tree loads honest are agrees,
        ),
      ),
    ))
    c.write_checked.ensures.ended
