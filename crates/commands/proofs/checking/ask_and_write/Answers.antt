use Rattle.std.proofs.Common.{None, [], inl, inr, map, refl, string_bytes}
use Rattle.std.proofs.lemmas.Result.{IfErr-weaker, IfOk-weaker}
use Rattle.commands.specs.Checking.{with_next}
use Rattle.commands.proofs.CheckLemmas.{answers_of}
use Rattle.commands.proofs.LineLemmas.{appends_nothing}
use Rattle.commands.proofs.checking.ask_and_write.Goals as goal

pub returns-clause-checks : goal.returns-clause-checks
returns-clause-checks g c =
    IfOk-weaker c.check_paths.result _ _
    (λ any h. (
      h.0,
      h.1,
      λ tree honest. answers_of tree c.args.world.now.env.now c.args.root.now c.in-Ok.matcher c.check_paths.new.matcher.cache h.0
          (c.in-Ok.ensures.asked tree honest) c.in-Ok.ensures.empty
          (λ loads are. h.2 tree loads honest are (c.in-Ok.ensures.fresh tree loads)),
    ))
    c.check_paths.ensures.checks

-- the first paths are answered, as they are where the check doesn't end early
pub returns-clause-ended : goal.returns-clause-ended
returns-clause-ended g c =
    IfErr-weaker c.check_paths.result _ _
    (λ stop h. (
      h.0,
      h.1,
      h.3,
      h.4,
      λ tree honest. inr (answers_of tree c.args.world.now.env.now c.args.root.now c.in-Ok.matcher h.2 (with_next h.0 h.1)
          (c.in-Ok.ensures.asked tree honest) c.in-Ok.ensures.empty
          (λ loads are. h.5 tree loads honest are (c.in-Ok.ensures.fresh tree loads))),
    ))
    c.check_paths.ensures.ended

-- without a matcher no path is
pub returns-in_default-clause-ended : goal.returns-in_default-clause-ended
returns-in_default-clause-ended g c = (
  [],
  None,
  (map string_bytes c.args.paths.now, refl),
  (appends_nothing (g.W.Output.contents c.args.out.now), appends_nothing (g.E.Write.contents c.args.err.now)),
  λ tree honest. inl refl,
)
