use Rattle.std.proofs.Common.{◌++◌, IfSome, Option, inl, inr, refl, subst}
use Rattle.std.specs.Io.KnownBytes.{Appends}
use Rattle.std.specs.List.{flat_map}
use Rattle.ig_commands.specs.Lint.{IsCounted, look_report}
use Rattle.ig_commands.specs.declared.sources.Sources.{Sources}
use Rattle.ig_commands.proofs.LintLemmas.{reports_then}
use Rattle.std.proofs.lemmas.Result.{IfOk-weaker}
use Rattle.commands.proofs.LineLemmas.{appends_nothing}
use Rattle.ig_commands.proofs.lint.lint_met.Goals as goal

pub returns-in-Some-clause-lints : goal.returns-in-Some-clause-lints
returns-in-Some-clause-lints g c =
    let sources = c.in-Some.sources in
    IfOk-weaker c.lint_all.result _ _ (λ status h. inl (
      sources.outside.items,
      sources.below.items,
      h.0,
      h.1,
      sources.reported,
      h.2,
      reports_then (g.E.Write.contents c.args.err.now) (g.E.Write.contents c.find_sources.new.err) (g.E.Write.contents c.lint_all.new.err)
          (flat_map look_report (h.0 ++ h.1)) sources.reported (subst (λ (f : Option Sources). IfSome f (λ s. IsCounted s.reported
          (Appends (g.E.Write.contents c.args.err.now) (g.E.Write.contents c.find_sources.new.err)))) c.in-Some.is c.in_ok-sources.ensures.counted) h.3,
      h.4,
    )) c.lint_all.ensures.lints

-- the options are rejected
pub returns-in-None-clause-lints : goal.returns-in-None-clause-lints
returns-in-None-clause-lints g c =
    let h = c.in_ok-sources.ensures.refused c.in-None.is in
    inr (h.0, h.1, refl, appends_nothing (g.W.Output.contents c.args.out.now), h.2)
