use Rattle.std.proofs.Common.{[], ◌∷◌, ◌++◌, List, Option, is_some, refl, subst}
use Rattle.std.proofs.lemmas.List.{take_all}
use Rattle.std.specs.List.{AllZip}
use Rattle.commands.proofs.LineLemmas.{appends_nothing}
use Rattle.ig_every.specs.declared.diagnostic.Diagnostic.{Diagnostic}
use Rattle.ig_commands.specs.Lint.{IsTold, option_text}
use Rattle.ig_commands.proofs.LintLemmas.{any_more, zip_more}
use Rattle.ig_commands.proofs.TurnLemmas.{text_more}
use Rattle.ig_commands.proofs.lint.write_rules.Goals as goal

pub loop-judged-init : goal.loop-judged-init
loop-judged-init g c = ([], tt, refl, appends_nothing (g.W.Output.contents c.args.out.now))

pub returns-clause-writes : goal.returns-clause-writes
returns-clause-writes g c =
    let so = c.loop-judged.invariant in (
      so.0,
      subst (λ (rs : List (Option Diagnostic)). AllZip (IsTold (c.args.all.now.sources.now.outside.items ++ c.args.all.now.sources.now.below.items) c.args.path.now) rs so.0) (take_all c.loop-judged.judged-index c.args.rules.now c.loop-judged-test.false) so.1,
      so.2,
      so.3,
    )

pub loop-judged-preserved : goal.loop-judged-preserved
loop-judged-preserved g c =
    let l = c.loop-judged in
    let so = l.invariant in
    let more = c.in_ok-is_told.ensures.writes in (
      so.0 ++ more.0 ∷ [],
      zip_more (IsTold (c.args.all.now.sources.now.outside.items ++ c.args.all.now.sources.now.below.items) c.args.path.now) c.args.rules.now l.judged-index c.judged-item.result so.0 more.0 c.loop-judged-test.true c.judged-item.is so.1 more.1,
      any_more is_some so.0 more.0 l.any _ _ so.2 more.2 c.either-any.ensures,
      text_more (option_text c.args.all.now.how.options.now c.args.all.now.how.json c.args.path.now) so.0 more.0 _ _ _ so.3 more.3,
    )
